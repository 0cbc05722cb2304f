use Rattle.std.proofs.Common.{◌≡◌, ℕ, List, length, Err, vec_items, refl, ◌∙◌}
use Rattle.text.proofs.Handed.{handed_on}
use Rattle.text.specs.declared.fault.Fault.{Fault}
use Rattle.text.specs.declared.fault.Fault.TheVariants.{LongNumber, NoMemory}
use Rattle.text.specs.declared.number.NumberKind.TheVariants.{Decimal as DecimalNumber}
use Rattle.text.specs.NormalForm.{Told}
use Rattle.text.specs.TokenGrammar.{Numeral}
use Rattle.source.specs.declared.nodes.Content.TheVariants.{Decimal}
use Rattle.model.specs.Values.{Dec, scalar, decimal}
use Rattle.reader.specs.Grammar.{l_decimal}
use Rattle.reader.proofs.Leaves.{node_for, pool_part, not_beyond}
use Rattle.names.specs.declared.part.Part.TheVariants.{Pool}
use Rattle.reader.proofs.begin.decimal_content.Goals as goal

only_memory : (ds before after : List ℕ) (k : ℕ) (f : Fault) → Numeral ds DecimalNumber → Told ds before after k (Err f) → f ≡ NoMemory
only_memory ds before after k (LongNumber p) n t = absurd (not_beyond n t.2)
only_memory ds before after k NoMemory n t = refl
only_memory ds before after k _ n t = absurd t

pub returns-in_err-scale : goal.returns-in_err-scale
returns-in_err-scale c text start =
    rw (handed_on c.from_residual.ensures.1) (only_memory _ _ _ _ _ c.requires c.in_err-scale.ensures)

pub returns : goal.returns
returns c text start name =
    let a = c.in_ok-scale.ensures in
    let d : Dec = record { negative = c.in_ok-scale.scale.negative; exponent = c.in_ok-scale.scale.exponent; digits = a.digits } in
    let before = vec_items c.args.pool.now in
    let after = vec_items c.normal.new.out in
    let l : c.len-start.result ≡ length before = c.len-start.ensures ∙ c.args.pool.now.ok.0 in
    let m : c.len.result ≡ length after = c.len.ensures ∙ c.normal.new.out.ok.0 in
    let q = pool_part text before a.digits after c.len-start.result c.len.result a.added l m in
    record {
      tree = scalar start (decimal d);
      leaf = l_decimal a.normal;
      node = node_for text before after (Decimal c.in_ok-scale.scale (Pool c.len-start.result c.len.result)) start (scalar start (decimal d)) refl refl refl refl refl q.0 q.1 a.digits a.added name;
    }
