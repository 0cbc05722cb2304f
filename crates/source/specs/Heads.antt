-- What a raw value says of itself, whatever is inside it.
use Rattle.std.specs.Prelude.{ℕ, Bool, false, List, [], ℤ, pos}
use Rattle.model.specs.Values.{Scalar, boolean, whole, decimal, string, symbol, Raw, null, scalar, variable, list, object}
use Rattle.source.specs.declared.raw.Kind.{Kind}
use Rattle.source.specs.declared.raw.Kind.TheVariants.{Null, Boolean, Whole, Decimal, String, Enum, Variable, List as ListKind, Object}

abbrev pub scalar_kind : Scalar → Kind
scalar_kind (boolean b) = Boolean
scalar_kind (whole s) = Whole
scalar_kind (decimal d) = Decimal
scalar_kind (string s) = String
scalar_kind (symbol s) = Enum

abbrev pub kind_of : Raw → Kind
kind_of (null at) = Null
kind_of (scalar at s) = scalar_kind s
kind_of (variable at n) = Variable
kind_of (list at xs) = ListKind
kind_of (object at ms) = Object

-- of a boolean, whether it is true
abbrev pub scalar_flag : Scalar → Bool
scalar_flag (boolean b) = b
scalar_flag (whole s) = false
scalar_flag (decimal d) = false
scalar_flag (string s) = false
scalar_flag (symbol s) = false

abbrev pub flag_of : Raw → Bool
flag_of (null at) = false
flag_of (scalar at s) = scalar_flag s
flag_of (variable at n) = false
flag_of (list at xs) = false
flag_of (object at ms) = false

-- of a whole number its normal form, of a decimal its digits, of a string its bytes, of an enum value and of a variable the name
abbrev pub scalar_text : Scalar → List ℕ
scalar_text (boolean b) = []
scalar_text (whole s) = s
scalar_text (decimal d) = d.digits
scalar_text (string s) = s
scalar_text (symbol s) = s

abbrev pub text_of : Raw → List ℕ
text_of (null at) = []
text_of (scalar at s) = scalar_text s
text_of (variable at n) = n
text_of (list at xs) = []
text_of (object at ms) = []

-- of a decimal, its sign and exponent
abbrev pub scalar_negative : Scalar → Bool
scalar_negative (boolean b) = false
scalar_negative (whole s) = false
scalar_negative (decimal d) = d.negative
scalar_negative (string s) = false
scalar_negative (symbol s) = false

abbrev pub negative_of : Raw → Bool
negative_of (null at) = false
negative_of (scalar at s) = scalar_negative s
negative_of (variable at n) = false
negative_of (list at xs) = false
negative_of (object at ms) = false

abbrev pub scalar_exponent : Scalar → ℤ
scalar_exponent (boolean b) = pos 0
scalar_exponent (whole s) = pos 0
scalar_exponent (decimal d) = d.exponent
scalar_exponent (string s) = pos 0
scalar_exponent (symbol s) = pos 0

abbrev pub exponent_of : Raw → ℤ
exponent_of (null at) = pos 0
exponent_of (scalar at s) = scalar_exponent s
exponent_of (variable at n) = pos 0
exponent_of (list at xs) = pos 0
exponent_of (object at ms) = pos 0
