-- The lesser of two places, and where the types of fields stand for something.
use Rattle.std.specs.Prelude.{◌≡◌, ℕ, cond, List, Some, None, Option, nat_le}
use Rattle.model.specs.Values.{Name}
use Rattle.model.specs.Cycles.{Among}
use Rattle.schema.specs.Documents.{Label}
use Rattle.schema.specs.declared.definition.Field.{Field}
use Rattle.schema.specs.declared.types.Base.{Base}
use Rattle.schema.specs.declared.types.«Type».{«Type»}

-- the lesser of two places that may be none
abbrev pub lesser_of : Option ℕ → Option ℕ → Option ℕ
lesser_of None b = b
lesser_of (Some p) None = Some p
lesser_of (Some p) (Some q) = Some (cond (nat_le p q) p q)

-- at p a field's type is written whose name stands for this
pub data StandsFor (base : Base) (fields : List Field) (p : ℕ) : Type 0 where
  stands_for : {f : Field} → Among f fields → f.ty.shape.base ≡ base → f.ty.place ≡ p → StandsFor base fields p

-- a name at a place
abbrev pub labelled : Name → ℕ → Label
labelled n p = record { name = n; place = p }

-- the type's name stands for this, and is written at p
abbrev pub BasedAt : Base → «Type» Base → ℕ → Type 0
BasedAt base t p = (t.shape.base ≡ base) × (t.place ≡ p)
