-- What the kind and the body of a record say.
use Rattle.std.specs.Prelude.{◌≡◌, ℕ, ◌<◌, Bool, cond, ◌≢◌, ◌⊎◌, List, [], ◌∷◌, length, slice_index_or, Ok, Err, Result}
use Rattle.text.specs.NormalForm.{Each}
use Rattle.text.specs.declared.fault.Fault.{Fault}
use Rattle.text.specs.declared.fault.Fault.TheVariants.{BadText, LongNumber as LongNumberFault}
use Rattle.model.specs.Values.{Dec, p_decimal, Rec, r_null, r_plain, r_list, r_object}
use Rattle.model.specs.Numbers.{NormalDec}
use Rattle.model.specs.Records.{truth, plain_kind, plain_body, ExponentFits}
use Rattle.model.specs.Limits.{PlainLimits}
use Rattle.stored.specs.declared.content.Content.{Content}
use Rattle.stored.specs.declared.content.Content.TheVariants.{Leaf, List as ListContent, Object}
use Rattle.stored.specs.declared.content.BodyError.{BodyError}
use Rattle.stored.specs.declared.content.BodyError.TheVariants.{BadForm, LongNumber}

-- the body of a boolean
abbrev pub BooleanForm : List ℕ → Type 0
BooleanForm b = (t : Bool) × (truth t ∷ [] ≡ b)

-- digits that do not begin with a zero
pub record Positive (ds : List ℕ) : Type 0 where
  pub each : Each ds
  pub some : 0 < length ds
  pub first : slice_index_or ds 0 0 ≢ 48

-- the body of the decimal 0
abbrev pub zero_body : List ℕ
zero_body = 0 ∷ 0 ∷ 0 ∷ 0 ∷ 0 ∷ 48 ∷ []

-- the body of a decimal in normal form
pub record DecimalForm (b : List ℕ) : Type 0 where
  pub dec : Dec
  pub body : plain_body (p_decimal dec) ≡ b
  pub formed : NormalDec dec
  pub fits : ExponentFits dec.exponent

-- a record that holds no others, within the limits
abbrev pub IsLeaf : ℕ → List ℕ → Rec → Type 0
IsLeaf k b r_null = (k ≡ 1) × (b ≡ [])
IsLeaf k b (r_plain x) = (plain_kind x ≡ k) × (plain_body x ≡ b) × PlainLimits x
IsLeaf k b (r_list rs) = ⊥
IsLeaf k b (r_object ms) = ⊥

-- a whole number of more than 1,000 bytes, or a decimal of more than 1,000 digits, whatever the bytes
abbrev pub Long : ℕ → List ℕ → Type 0
Long k b = ((k ≡ 3) × (1000 < length b)) ⊎ ((k ≡ 4) × (1005 < length b))

-- the body is not what the kind wants, or no record of a value has the kind
pub record Senseless (k : ℕ) (b : List ℕ) : Type 0 where
  pub no_leaf : (r : Rec) → IsLeaf k b r → ⊥
  pub not_long : Long k b → ⊥
  pub no_list : k ≢ 6
  pub no_object : k ≢ 7

-- the record is that of a value, whatever is inside it
pub data Sensible (k : ℕ) (b : List ℕ) : Type 0 where
  a_leaf : (r : Rec) → IsLeaf k b r → Sensible k b
  a_list : k ≡ 6 → Sensible k b
  an_object : k ≡ 7 → Sensible k b

abbrev pub leaf_of : Bool → Result Content BodyError
leaf_of good = cond good (Ok Leaf) (Err BadForm)

-- the fault of a record at a place
abbrev pub fault_at : BodyError → ℕ → Fault
fault_at BadForm i = BadText i
fault_at LongNumber i = LongNumberFault i

-- what the function on contents promises
abbrev pub ContentTold : ℕ → List ℕ → Result Content BodyError → Type 0
ContentTold k b (Err BadForm) = Senseless k b
ContentTold k b (Err LongNumber) = Long k b
ContentTold k b (Ok Leaf) = (r : Rec) × IsLeaf k b r
ContentTold k b (Ok ListContent) = k ≡ 6
ContentTold k b (Ok Object) = k ≡ 7
