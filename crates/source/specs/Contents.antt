-- What a node's content says of the value.
use Rattle.std.specs.Prelude.{Bool, true, false, ℤ, pos, Some, None, Option}
use Rattle.names.specs.declared.part.Part.{Part}
use Rattle.source.specs.declared.raw.Kind.{Kind}
use Rattle.source.specs.declared.raw.Kind.TheVariants.{Null as NullKind, Boolean as BooleanKind, Whole as WholeKind, Decimal as DecimalKind, String as StringKind, Enum as EnumKind, Variable as VariableKind, List as ListKind, Object as ObjectKind}
use Rattle.source.specs.declared.nodes.Content.{Content}
use Rattle.source.specs.declared.nodes.Content.TheVariants.{Null, Boolean, Whole, Decimal, String, Enum, Variable, List, Object}

abbrev pub kind_in : Content → Kind
kind_in Null = NullKind
kind_in (Boolean b) = BooleanKind
kind_in (Whole p) = WholeKind
kind_in (Decimal s p) = DecimalKind
kind_in (String p) = StringKind
kind_in (Enum p) = EnumKind
kind_in (Variable p) = VariableKind
kind_in List = ListKind
kind_in Object = ObjectKind

abbrev pub variable_in : Content → Bool
variable_in Null = false
variable_in (Boolean b) = false
variable_in (Whole p) = false
variable_in (Decimal s p) = false
variable_in (String p) = false
variable_in (Enum p) = false
variable_in (Variable p) = true
variable_in List = false
variable_in Object = false

-- of a boolean, whether it is true
abbrev pub flag_in : Content → Bool
flag_in Null = false
flag_in (Boolean b) = b
flag_in (Whole p) = false
flag_in (Decimal s p) = false
flag_in (String p) = false
flag_in (Enum p) = false
flag_in (Variable p) = false
flag_in List = false
flag_in Object = false

-- where the bytes of a number, a string or a name stand
abbrev pub text_in : Content → Option Part
text_in Null = None
text_in (Boolean b) = None
text_in (Whole p) = Some p
text_in (Decimal s p) = Some p
text_in (String p) = Some p
text_in (Enum p) = Some p
text_in (Variable p) = Some p
text_in List = None
text_in Object = None

-- the content whose bytes stand in another part, if it writes any
abbrev pub text_put : Content → Part → Content
text_put Null q = Null
text_put (Boolean b) q = Boolean b
text_put (Whole p) q = Whole q
text_put (Decimal s p) q = Decimal s q
text_put (String p) q = String q
text_put (Enum p) q = Enum q
text_put (Variable p) q = Variable q
text_put List q = List
text_put Object q = Object

-- of a decimal, its sign and exponent
abbrev pub negative_in : Content → Bool
negative_in Null = false
negative_in (Boolean b) = false
negative_in (Whole p) = false
negative_in (Decimal s p) = s.negative
negative_in (String p) = false
negative_in (Enum p) = false
negative_in (Variable p) = false
negative_in List = false
negative_in Object = false

abbrev pub exponent_in : Content → ℤ
exponent_in Null = pos 0
exponent_in (Boolean b) = pos 0
exponent_in (Whole p) = pos 0
exponent_in (Decimal s p) = s.exponent
exponent_in (String p) = pos 0
exponent_in (Enum p) = pos 0
exponent_in (Variable p) = pos 0
exponent_in List = pos 0
exponent_in Object = pos 0
