-- What a walk by turns keeps: how its frames, steps and faults stand for the model's open records, values that come, and refusals.
use Rattle.std.specs.Prelude.{◌≡◌, ℕ, ◌<◌, List, map, length, get_or, cond, vec_items, None, Some, Option, Ok, Err, Result}
use mathlib.Core.Option.{none, some}
use Rattle.text.specs.declared.language.Language.{Language}
use Rattle.text.specs.declared.language.Language.TheVariants.{Json, Graphql}
use Rattle.model.specs.Values.{Name, Form, json, literal, Raw, Raws, Mems, place_of, Ty, mem, Field, Def, int_d, string_d, boolean_d, id_d, enum_d, input_d, output_d, Plain, r_plain}
use Rattle.model.specs.Refusals.{number_of as cause_number, Refusal, Here}
use Rattle.source.specs.declared.raw.Span.{Span}
use Rattle.schema.specs.declared.types.Base.{Base}
use Rattle.schema.specs.declared.types.Base.TheVariants.{Int, Float, String, Boolean, Id, Custom, Enum, Input, Output, Unknown}
use Rattle.schema.specs.declared.definition.Schema.{Schema}
use Rattle.schema.specs.Spans.{rows_in, inside_at}
use Rattle.schema.specs.declared.types.Shape.{Shape}
use Rattle.schema.specs.declared.definition.Field.{Field as FieldRow}
use Rattle.schema.specs.declared.layer.Layer.TheVariants.{Value as ValueLayer}
use Rattle.schema.specs.Documents.{Document}
use Rattle.coercion.specs.declared.fault.ValueFault.{ValueFault}
use Rattle.coercion.specs.declared.frames.Frame.{Frame}
use Rattle.coercion.specs.declared.walk.Step.{Step}
use Rattle.coercion.specs.Faults.{number_of, layer_of, spot_of}
use Rattle.coercion.specs.Frames.{field_in, default_in}
use Rattle.coercion.specs.Levels.{Opens, whole, holds, fails, Level, Coming, Rest, Follows, nothing, next, missing, too_far}
use Rattle.record.specs.declared.body.Body.{Body}
use Rattle.coercion.specs.Bodies.{NameIs, Writes}
use Rattle.coercion.specs.Openings.{ShapeIs, AsksIs, RestIs}

-- the form of what is written in a language
abbrev pub form_of : Language → Form
form_of Json = json
form_of Graphql = literal

-- the index is that of a field with the name, or there is none
abbrev pub FieldIs : List FieldRow → Option ℕ → mathlib.Core.Option.Option Name → Type 0
FieldIs rows None none = Unit {0}
FieldIs rows None (some n) = ⊥
FieldIs rows (Some i) none = ⊥
FieldIs rows (Some i) (some n) = (i < length rows) × ((r : FieldRow) → (get_or rows i r).name.now ≡ n)

-- the fault tells the refusal: its number, its place, the variable and the innermost field
pub record FaultIs (rows : List FieldRow) (v : ℕ) (e : ValueFault) (f : Refusal) : Type 0 where
  pub number : number_of e ≡ Some (cause_number f.cause)
  pub layer : layer_of e ≡ ValueLayer
  pub place : (spot_of e).place ≡ f.place
  pub variable : (spot_of e).variable ≡ Some v
  pub field : FieldIs rows (spot_of e).field f.field

abbrev pub ShapeHeld : Document → Option (Shape Base) → mathlib.Core.Option.Option Ty → Type 0
ShapeHeld D None none = Unit {0}
ShapeHeld D None (some t) = ⊥
ShapeHeld D (Some s) none = ⊥
ShapeHeld D (Some s) (some t) = ShapeIs D s t

-- a step is a value that comes, at the type that its frame has then
pub record StepIs (stands : ℕ → Raw → Type 0) (rows : List FieldRow) (D : Document) (shape : Option (Shape Base)) (s : Step) (c : Coming) : Type 0 where
  pub name : NameIs s.name c.name
  pub raw : stands s.at c.raw
  pub held : ShapeHeld D shape c.ty
  pub field : FieldIs rows (field_in s.within) c.here.field
  pub in_default : default_in s.within ≡ c.here.in_default

-- a frame is an open record
pub record FrameIs (stands : ℕ → Raw → Type 0) (items_in : Span → Raws → Type 0) (members_in : Span → Mems → Type 0) (rows : List FieldRow) (D : Document) (f : Frame) (m : Level) : Type 0 where
  pub rest : RestIs stands items_in members_in D f.inside.rest f.inside.shape m.rest
  pub asks : AsksIs D f.inside.scalar m.asks
  pub start : f.start ≡ m.start
  pub raw : Raw
  pub there : stands f.at raw
  pub place : place_of raw ≡ m.at
  pub field : FieldIs rows (field_in f.within) m.here.field
  pub in_default : default_in f.within ≡ m.here.in_default

-- the tests of a value say that it fails so
abbrev pub FailsAs : List FieldRow → ℕ → Here → ValueFault → Opens → Type 0
FailsAs rows v h e (whole r a) = ⊥
FailsAs rows v h e (holds x a) = ⊥
FailsAs rows v h e (fails u at) = FaultIs rows v e (record { cause = u; place = cond h.in_default 0 at; variable = h.variable; field = h.field })

-- of a frame, what is still to come in it is taken on
pub record GoesOn (stands : ℕ → Raw → Type 0) (items_in : Span → Raws → Type 0) (members_in : Span → Mems → Type 0) (D : Document) (old new : Frame) (y : Rest) : Type 0 where
  pub rest : RestIs stands items_in members_in D new.inside.rest new.inside.shape y
  pub scalar : new.inside.scalar ≡ old.inside.scalar
  pub start : new.start ≡ old.start
  pub at : new.at ≡ old.at
  pub within : new.within ≡ old.within

-- what comes next in a frame is what follows in the record
abbrev pub NextIs : (stands : ℕ → Raw → Type 0) (items_in : Span → Raws → Type 0) (members_in : Span → Mems → Type 0) → List FieldRow → Document → Frame → Result (Option (Step × Frame)) ValueFault → Follows → Type 0
NextIs stands items_in members_in rows D f (Ok None) nothing = Unit {0}
NextIs stands items_in members_in rows D f (Ok None) (next c y) = ⊥
NextIs stands items_in members_in rows D f (Ok None) (missing n) = ⊥
NextIs stands items_in members_in rows D f (Ok None) too_far = Unit {0}
NextIs stands items_in members_in rows D f (Ok (Some p)) nothing = ⊥
NextIs stands items_in members_in rows D f (Ok (Some p)) (next c y) = StepIs stands rows D p.1.inside.shape p.0 c × GoesOn stands items_in members_in D f p.1 y
NextIs stands items_in members_in rows D f (Ok (Some p)) (missing n) = ⊥
NextIs stands items_in members_in rows D f (Ok (Some p)) too_far = Unit {0}
NextIs stands items_in members_in rows D f (Err e) nothing = ⊥
NextIs stands items_in members_in rows D f (Err e) (next c y) = ⊥
NextIs stands items_in members_in rows D f (Err e) (missing n) = Unit {0}
NextIs stands items_in members_in rows D f (Err e) too_far = Unit {0}

-- an answer, and beside it the frame in which the rest is left
abbrev pub beside : Frame → Result (Option Step) ValueFault → Result (Option (Step × Frame)) ValueFault
beside f (Ok None) = Ok None
beside f (Ok (Some s)) = Ok (Some (s, f))
beside f (Err e) = Err e

-- members that are left of an object's
pub data Later : Mems → Mems → Type 0 where
  all : {ms : Mems} → Later ms ms
  past : {n : Name} {x : Raw} {ns ms : Mems} → Later ns ms → Later ns (mem n x ms)

-- the member with a name, and members that are left
abbrev pub MemberTold : (stands : ℕ → Raw → Type 0) (members_in : Span → Mems → Type 0) → Mems → mathlib.Core.Option.Option Raw → Option (ℕ × Span) → Type 0
MemberTold stands members_in ms none None = Unit {0}
MemberTold stands members_in ms none (Some p) = ⊥
MemberTold stands members_in ms (some x) None = ⊥
MemberTold stands members_in ms (some x) (Some p) = stands p.0 x × ((ns : Mems) × Later ns ms × members_in p.1 ns)

-- the body is what a type keeps of a scalar, or it keeps nothing
abbrev pub PlainTold : Option Body → mathlib.Core.Option.Option Plain → Type 0
PlainTold None none = Unit {0}
PlainTold None (some x) = ⊥
PlainTold (Some b) none = ⊥
PlainTold (Some b) (some x) = Writes b (r_plain x)

-- what a type's name stands for, beside its definition: of the built-in scalars but Float, and of enums by their rows
abbrev pub Means : Schema → Base → Def → Type 0
Means s Int d = d ≡ int_d
Means s Float d = ⊥
Means s String d = d ≡ string_d
Means s Boolean d = d ≡ boolean_d
Means s Id d = d ≡ id_d
Means s (Custom k) d = ⊥
Means s (Enum k) d = d ≡ enum_d (map (λ v. v.name.now) (rows_in (vec_items s.values) (inside_at (vec_items s.types) k)))
Means s (Input k) d = (fs : List Field) × (d ≡ input_d fs)
Means s Output d = d ≡ output_d
Means s Unknown d = d ≡ output_d
