-- What the parts of a walk stand for: its types, what is to come in a record, and how a record is opened.
use Rattle.std.specs.Prelude.{◌≡◌, ℕ, ◌≤◌, None, Some, Option}
use mathlib.Core.Option.{none, some}
use Rattle.model.specs.Values.{Name, Raw, Raws, Mems, nil, cons, Ty, Rec, Recs, Rmems}
use Rattle.source.specs.declared.raw.Span.{Span}
use Rattle.schema.specs.declared.types.Base.{Base}
use Rattle.schema.specs.declared.types.Base.TheVariants.{Custom}
use Rattle.schema.specs.declared.types.Shape.{Shape}
use Rattle.schema.specs.Documents.{Document}
use Rattle.schema.specs.Rows.{base_in}
use Rattle.schema.specs.Types.{ty_from}
use Rattle.record.specs.declared.body.Body.{Body}
use Rattle.coercion.specs.declared.frames.Inside.{Inside}
use Rattle.coercion.specs.declared.frames.Rest.{Rest as RestIn}
use Rattle.coercion.specs.declared.frames.Rest.TheVariants.{Single, Items, Members}
use Rattle.coercion.specs.Levels.{Rest, items, kept, members, Opens, whole, holds, fails, taken_in}
use Rattle.coercion.specs.Bodies.{Writes}

-- the shape is the type's, whose name stands for what the document says
pub record ShapeIs (D : Document) (s : Shape Base) (t : Ty) : Type 0 where
  pub name : Name
  pub type : ty_from s.non_null name s.levels ≡ t
  pub base : s.base ≡ base_in D name
  pub levels : s.levels ≤ 8

-- the index is that of the custom scalar, or there is none
abbrev pub AsksIs : Document → Option ℕ → mathlib.Core.Option.Option Name → Type 0
AsksIs D None none = Unit {0}
AsksIs D None (some n) = ⊥
AsksIs D (Some i) none = ⊥
AsksIs D (Some i) (some n) = base_in D n ≡ Custom i

-- what is still to come, by the cursors of a source
pub data RestIs (stands : ℕ → Raw → Type 0) (items_in : Span → Raws → Type 0) (members_in : Span → Mems → Type 0) (D : Document) : Option RestIn → Option (Shape Base) → Rest → Type 0 where
  single_is : {at : ℕ} {s : Shape Base} {rs : Recs} {t : Ty} {x : Raw} → stands at x → ShapeIs D s t → RestIs stands items_in members_in D (Some (Single at)) (Some s) (items rs t (cons x nil))
  single_taken : {s : Shape Base} {rs : Recs} {t : Ty} → ShapeIs D s t → RestIs stands items_in members_in D None (Some s) (items rs t nil)
  items_are : {span : Span} {s : Shape Base} {rs : Recs} {t : Ty} {xs : Raws} → items_in span xs → ShapeIs D s t → RestIs stands items_in members_in D (Some (Items span)) (Some s) (items rs t xs)
  contents_are : {span : Span} {rs : Recs} {xs : Raws} → items_in span xs → RestIs stands items_in members_in D (Some (Items span)) None (kept rs xs)
  members_are : {span : Span} {rs : Rmems} {ms : Mems} → members_in span ms → RestIs stands items_in members_in D (Some (Members span)) None (members rs ms)

-- a record is opened as the tests of its value say
pub record WholeIs (D : Document) (b : Body) (i : Inside) (r : Rec) (a : mathlib.Core.Option.Option Name) : Type 0 where
  pub body : Writes b r
  pub rest : i.rest ≡ None
  pub scalar : AsksIs D i.scalar a

pub record HoldsIs (stands : ℕ → Raw → Type 0) (items_in : Span → Raws → Type 0) (members_in : Span → Mems → Type 0) (D : Document) (b : Body) (i : Inside) (x : Rest) (a : mathlib.Core.Option.Option Name) : Type 0 where
  pub body : Writes b (taken_in x)
  pub rest : RestIs stands items_in members_in D i.rest i.shape x
  pub scalar : AsksIs D i.scalar a

abbrev pub OpensAs : (stands : ℕ → Raw → Type 0) (items_in : Span → Raws → Type 0) (members_in : Span → Mems → Type 0) → Document → Body → Inside → Opens → Type 0
OpensAs stands items_in members_in D b i (whole r a) = WholeIs D b i r a
OpensAs stands items_in members_in D b i (holds x a) = HoldsIs stands items_in members_in D b i x a
OpensAs stands items_in members_in D b i (fails u at) = ⊥
