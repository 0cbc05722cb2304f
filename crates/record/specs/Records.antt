-- The bytes of records.
use Rattle.std.specs.Prelude.{ℕ, ◌+◌, ◌-◌, ◌/◌, ◌%◌, cond, List, [], ◌∷◌, ◌++◌, length, take, drop, Some, None, Option}
use Rattle.std.proofs.Common.{of_z}
use Rattle.std.specs.Int.{w32}
use Rattle.std.specs.Borrow.{Bor}
use Rattle.text.specs.declared.decimal.Scale.{Scale}
use Rattle.record.specs.declared.body.Body.{Body}
use Rattle.record.specs.declared.body.Body.TheVariants.{Null, Boolean, Whole, Decimal, String, List as a_list, Object}

-- four bytes, little-endian
abbrev pub le32 : ℕ → List ℕ
le32 n = (n % 256) ∷ (n / 256 % 256) ∷ (n / 65536 % 256) ∷ (n / 16777216 % 256) ∷ []

-- a header: the size of the body, and the kind
abbrev pub header : ℕ → ℕ → List ℕ
header n k = le32 n ++ (k ∷ 0 ∷ [])

-- the record of a member's name, if there is one
abbrev pub named : Option (Bor (List ℕ)) → List ℕ
named None = []
named (Some s) = header (length s.now) 8 ++ s.now

-- the number of a record's kind
abbrev pub kind_of : Body → ℕ
kind_of Null = 1
kind_of (Boolean b) = 2
kind_of (Whole s) = 3
kind_of (Decimal z s) = 4
kind_of (String s) = 5
kind_of a_list = 6
kind_of Object = 7

-- the sign and the exponent of a decimal
abbrev pub scale : Scale → List ℕ
scale z = cond z.negative 1 0 ∷ le32 (of_z w32 z.exponent)

-- the body of a record as it is opened
abbrev pub opened : Body → List ℕ
opened Null = []
opened (Boolean b) = cond b 1 0 ∷ []
opened (Whole s) = s.now
opened (Decimal z s) = scale z ++ s.now
opened (String s) = s.now
opened a_list = []
opened Object = []

-- the header at p says how many bytes follow it
abbrev pub patched : ℕ → List ℕ → List ℕ
patched p bs = take p bs ++ (le32 (length bs - (p + 6)) ++ drop (p + 4) bs)
