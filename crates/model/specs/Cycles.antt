-- Default cycles: which defaults of input fields the coercion of a default asks for in its turn (section 3.10).
use Rattle.std.specs.Prelude.{◌≡◌, ℕ, zero, suc, Bool, List, [], ◌∷◌, ◌++◌}
use Rattle.std.proofs.Math.Option.{Option, none, some}
use Rattle.model.specs.Values.{Name, Raw, Raws, Mems, object, cons, Ty, named, list_of, Field, Def, int_d, float_d, string_d, boolean_d, id_d, enum_d, input_d, custom_d, output_d, TypeDef, Schema, find}
use Rattle.model.specs.Coercion.{member}
use Rattle.model.specs.Taking.{items}
use Rattle.model.specs.Paths.{Steps}

-- an input field, and the name of the input object type that has it
pub record InputField : Type 0 where
  pub owner : Name
  pub field : Field

pub data Among {A : Type 0} (x : A) : List A → Type 0 where
  first : {xs : List A} → Among x (x ∷ xs)
  later : {y : A} {xs : List A} → Among x xs → Among x (y ∷ xs)

-- `Lacks S x t n f`: coercing x at t meets an object of the input object type n that has no member for its field f, and f has a default.
-- At a list type each item is met, and what is no list is a list of one; at an input object type an object is met, and the members of its fields, each at its field's type;
-- in null, in variables, in scalars and in custom contents nothing is met.
mutual
  pub data Lacks (S : Schema) : Raw → Ty → Name → Field → Type 0 where
    l_here : {nullable : Bool} {n : Name} {at : ℕ} {ms : Mems} {fs : List Field} {f : Field} {y : Raw}
        → find S n ≡ input_d fs → Among f fs → member ms f.name ≡ none → f.dflt ≡ some y → Lacks S (object at ms) (named nullable n) n f
    l_member : {nullable : Bool} {n : Name} {at : ℕ} {ms : Mems} {fs : List Field} {g : Field} {x : Raw} {m : Name} {f : Field}
        → find S n ≡ input_d fs → Among g fs → member ms g.name ≡ some x → Lacks S x g.ty m f → Lacks S (object at ms) (named nullable n) m f
    l_items : {nullable : Bool} {v : Raw} {t : Ty} {n : Name} {f : Field} → LacksIn S (items v) t n f → Lacks S v (list_of nullable t) n f

  pub data LacksIn (S : Schema) : Raws → Ty → Name → Field → Type 0 where
    l_first : {x : Raw} {xs : Raws} {t : Ty} {n : Name} {f : Field} → Lacks S x t n f → LacksIn S (cons x xs) t n f
    l_later : {x : Raw} {xs : Raws} {t : Ty} {n : Name} {f : Field} → LacksIn S xs t n f → LacksIn S (cons x xs) t n f

-- F has a default, and coercing it at F's type meets an object that lacks G, which has a default
pub data Leads (S : Schema) (F G : InputField) : Type 0 where
  leads : {x : Raw} → F.field.dflt ≡ some x → Lacks S x F.field.ty G.owner G.field → Leads S F G

-- one or more such steps
abbrev pub LeadsOn : Schema → InputField → InputField → Type 0
LeadsOn S F G = Steps (Leads S) F G

abbrev pub OnCycle : Schema → InputField → Type 0
OnCycle S F = LeadsOn S F F

abbrev pub Acyclic : Schema → Type 0
Acyclic S = (F : InputField) → OnCycle S F → ⊥

-- the input fields of a schema, in order, and those of them that have a default

abbrev pub owned : Name → List Field → List InputField
owned n [] = []
owned n (f ∷ fs) = record { owner = n; field = f } ∷ owned n fs

abbrev pub of_def : Name → Def → List InputField
of_def n int_d = []
of_def n float_d = []
of_def n string_d = []
of_def n boolean_d = []
of_def n id_d = []
of_def n (enum_d ns) = []
of_def n (input_d fs) = owned n fs
of_def n custom_d = []
of_def n output_d = []

abbrev pub of_types : List TypeDef → List InputField
of_types [] = []
of_types (d ∷ ds) = of_def d.name d.def ++ of_types ds

abbrev pub input_fields : Schema → List InputField
input_fields S = of_types S.types

abbrev pub if_default : InputField → Option Raw → List InputField → List InputField
if_default F none Fs = Fs
if_default F (some x) Fs = F ∷ Fs

abbrev pub with_default : List InputField → List InputField
with_default [] = []
with_default (F ∷ Fs) = if_default F F.field.dflt (with_default Fs)

-- the fields by their numbers: `nth` from 0 in the order of the text, and which number leads to which

abbrev pub nth : {A : Type 0} → List A → ℕ → Option A
nth [] i = none
nth (x ∷ xs) zero = some x
nth (x ∷ xs) (suc i) = nth xs i

pub data LeadsByNumber (S : Schema) (i j : ℕ) : Type 0 where
  by_number : {F G : InputField} → nth (input_fields S) i ≡ some F → nth (input_fields S) j ≡ some G → Leads S F G → LeadsByNumber S i j
