use Rattle.std.proofs.Common.{◌≡◌, ◌∙◌, ℕ, List, Bor, sym, refl, ap, subst, arith}
use Rattle.text.proofs.Handed.{handed_on}
use Rattle.text.specs.declared.fault.Fault.TheVariants.{NoSpace}
use Rattle.reader.proofs.Faults.{blames_map}
use Rattle.reader.specs.Reading.{fails}
use Rattle.source.specs.Table.{table_of, Keeps}
use Rattle.schema.specs.declared.types.«Type».{«Type» as TypeIn}
use Rattle.schema.specs.declared.types.Base.{Base}
use Rattle.schema.specs.declared.types.Shape.{Shape}
use Rattle.schema.specs.Rows.{base_in}
use Rattle.schema.specs.Declarations.{ReadsDeclared}
use Rattle.schema.specs.Documents.{Label}
use Rattle.schema.specs.Holds.{typed_of, DefaultHeld}
use Rattle.schema.specs.OperationReading.{ReadsAfterDollar}
use Rattle.schema.specs.Outcomes.{Takes, any_name}
use Rattle.schema.specs.Told.{sights}
use Rattle.schema.specs.Types.{ty_from}
use Rattle.schema.proofs.OperationSteps.{dollar_unnamed, dollar_full, dollar_fails, dollar_read}
use Rattle.schema.proofs.Seeing.{read_in}
use Rattle.schema.proofs.operation.variable_at.Goals as goal

pub returns-in_err-name-clause-told : goal.returns-in_err-name-clause-told
returns-in_err-name-clause-told c S h =
    let t = c.args.tokens.now in
    rw (handed_on c.from_residual.ensures.1)
    (blames_map (λ g. Takes (sights t) any_name t.at (fails g)) (λ g. ReadsAfterDollar (sights t) c.args.before c.args.place t.at (fails g)) (λ f x. dollar_unnamed (sights t) c.args.before c.args.place t.at f x) _ c.in_err-name.ensures.told)

pub returns-then-before-ge-MOST_VARIABLES-clause-told : goal.returns-then-before-ge-MOST_VARIABLES-clause-told
returns-then-before-ge-MOST_VARIABLES-clause-told c S h =
    let t = c.args.tokens.now in
    let n = c.in_ok-name.ensures.told in
    subst (λ l. ReadsAfterDollar (sights t) c.args.before c.args.place t.at (fails (NoSpace l.place))) (sym n.means)
    (dollar_full (sights t) c.args.before c.args.place t.at c.name.new.self.at n.value n.reads c.if-before-ge-MOST_VARIABLES.true)

pub returns-in_err-ty-clause-told : goal.returns-in_err-ty-clause-told
returns-in_err-ty-clause-told c S h =
    let t = c.args.tokens.now in
    let u = c.name.new.self in
    let n = c.in_ok-name.ensures.told in
    rw (handed_on c.from_residual-in_err-ty.ensures.1)
    (blames_map (λ g. ReadsDeclared (sights u) n.value u.at (fails g)) (λ g. ReadsAfterDollar (sights t) c.args.before c.args.place t.at (fails g))
    (λ f x. dollar_fails (sights t) c.args.before c.args.place t.at u.at n.value n.reads f c.if-before-ge-MOST_VARIABLES.false (read_in (λ N. ReadsDeclared N n.value) t u u.at (fails f) n.onward.0 x))
    _ (c.in_err-ty.ensures.told n.value))

-- a type is the one written, whatever its name stands for
typed_by : {B C : Type 0} (t : TypeIn B) (u : TypeIn C) → t.shape.levels ≡ u.shape.levels → t.shape.non_null ≡ u.shape.non_null → t.name ≡ u.name → t.place ≡ u.place → typed_of t ≡ typed_of u
typed_by t u l m n p = λ i. record { ty = ty_from (m i) (n i).now (l i); place = p i }

pub returns-clause-told : goal.returns-clause-told
returns-clause-told c S h =
    let t = c.args.tokens.now in
    let u = c.name.new.self in
    let v = c.declared.new.tokens in
    let n = c.in_ok-name.ensures.told in
    let d = c.in_ok-ty.ensures.told n.value in
    let l = n.means ∙ sym d.means.label in
    let o = c.of.ensures in
    record {
      value = record { place = c.args.place; declared = d.value };
      reads = dollar_read (sights t) c.args.before c.args.place t.at u.at n.value n.reads v.at d.value c.if-before-ge-MOST_VARIABLES.false (read_in (λ N. ReadsDeclared N n.value) t u u.at _ n.onward.0 d.reads);
      means = record {
        held = record {
          name = ap (λ (l : Label). l.name) l;
          name_place = ap (λ (l : Label). l.place) l;
          place = refl;
          typed = typed_by c.of.result c.in_ok-ty.field-0.ty (ap (λ (s : Shape Base). s.levels) o.shape) (ap (λ (s : Shape Base). s.non_null) o.shape) o.name o.place ∙ d.means.typed;
          base = ap (λ (s : Shape Base). s.base) o.shape ∙ c.base.ensures S h ∙ ap (λ (w : Bor (List ℕ)). base_in S w.now) (sym o.name);
          default = subst (λ text. DefaultHeld (table_of text c.declared.new.nodes) c.in_ok-ty.field-0.default d.value.dflt) n.onward.0 d.means.default;
        };
        keeps = subst (λ text. Keeps 0 (table_of text c.args.nodes.now) (table_of text c.declared.new.nodes)) n.onward.0 c.in_ok-ty.ensures.keeps;
      };
      onward = (d.onward.0 ∙ n.onward.0, omega (arith, d.onward.1, n.onward.1));
    }
