-- What holds of the fields of each input type, and of each default, carried on.
use Rattle.std.proofs.Common.{List, [], ◌∷◌}
use mathlib.Core.Option.{Option, none, some}
use Rattle.model.specs.Values.{Raw, Ty, Field, Def, int_d, float_d, string_d, boolean_d, id_d, enum_d, input_d, custom_d, output_d, TypeDef, Schema}
use Rattle.model.specs.Back.{OfDef, OfTypes, OfInputs}
use Rattle.model.specs.Bounds.{OfDefault, EachDefault}

def_map : (P Q : List Field → Type 0) → ((fs : List Field) → P fs → Q fs) → (D : Def) → OfDef P D → OfDef Q D
def_map P Q f int_d h = tt
def_map P Q f float_d h = tt
def_map P Q f string_d h = tt
def_map P Q f boolean_d h = tt
def_map P Q f id_d h = tt
def_map P Q f (enum_d ns) h = tt
def_map P Q f (input_d fs) h = f fs h
def_map P Q f custom_d h = tt
def_map P Q f output_d h = tt

types_map : (P Q : List Field → Type 0) → ((fs : List Field) → P fs → Q fs) → (ds : List TypeDef) → OfTypes P ds → OfTypes Q ds
types_map P Q f [] h = tt
types_map P Q f (d ∷ ds) h = (def_map P Q f d.def h.0, types_map P Q f ds h.1)

pub inputs_map : (P Q : List Field → Type 0) → ((fs : List Field) → P fs → Q fs) → (S : Schema) → OfInputs P S → OfInputs Q S
inputs_map P Q f S h = types_map P Q f S.types h

default_map : (P Q : Raw → Ty → Type 0) → ((x : Raw) (t : Ty) → P x t → Q x t) → (t : Ty) (o : Option Raw) → OfDefault P t o → OfDefault Q t o
default_map P Q f t none h = tt
default_map P Q f t (some x) h = f x t h

pub defaults_map : (P Q : Raw → Ty → Type 0) → ((x : Raw) (t : Ty) → P x t → Q x t) → (fs : List Field) → EachDefault P fs → EachDefault Q fs
defaults_map P Q f [] h = tt
defaults_map P Q f (g ∷ fs) h = (default_map P Q f g.ty g.dflt h.0, defaults_map P Q f fs h.1)
