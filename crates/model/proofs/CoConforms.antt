-- what is accepted conforms
use Rattle.std.proofs.Common.{◌≡◌, true, List, subst}
use mathlib.Core.Option.{Option, none, some}
use Rattle.model.specs.Values.{Form, Scalar, Raw, Raws, Mems, Ty, Field, Def, Schema, Plain, Rec, Recs, Rmems}
use Rattle.model.specs.Numbers.{is_finite}
use Rattle.model.specs.Scalars.{TakesScalar, int_whole, float_decimal, float_whole, string_string, boolean_boolean, id_string, id_whole, enum_json, enum_literal, custom_any}
use Rattle.model.specs.Coercion.{Rule, member}
use Rattle.model.specs.Taking.{or_else, Takes, TakesAll, TakesFields, t_null, t_scalar, t_list, t_input, t_any_list, t_any_object, t_nil, t_cons, t_end, t_some, t_none}
use Rattle.model.specs.Conforming.{PlainOk, ok_int, ok_float, ok_string, ok_boolean, ok_id_string, ok_id_whole, ok_enum, ok_custom, Conforms, ConformsAll, ConformsFields, c_null, c_plain, c_list, c_input, c_any_list, c_any_object, c_nil, c_cons, f_end, f_has, f_absent}
use Rattle.model.specs.Laws.{AcceptsConforming}
use Rattle.model.proofs.CoFloat.{whole_finite}
use Rattle.model.proofs.CoTakes.{taken}

plain_ok : {p : Form} {D : Def} {s : Scalar} {x : Plain} → TakesScalar p D s x → PlainOk D x
plain_ok (int_whole e) = ok_int e
plain_ok (float_decimal e) = ok_float e
plain_ok {p} (float_whole {s = s} e f) = ok_float (subst (λ d. is_finite d ≡ true) f (whole_finite p s e))
plain_ok string_string = ok_string
plain_ok boolean_boolean = ok_boolean
plain_ok id_string = ok_id_string
plain_ok id_whole = ok_id_whole
plain_ok (enum_json e) = ok_enum e
plain_ok (enum_literal e) = ok_enum e
plain_ok (custom_any e) = ok_custom

no_default : (m o : Option Raw) → or_else m o ≡ none → o ≡ none
no_default none o e = e
no_default (some x) o e = cc

mutual
  pub conforms : {S : Schema} {R : Rule} {p : Form} {t : Ty} {v : Raw} {r : Rec} → Takes S R p t v r → Conforms S R t r
  conforms (t_null e) = c_null e
  conforms (t_scalar a e) = c_plain (plain_ok a) e
  conforms (t_list u a) = c_list (conforms_all a)
  conforms (t_input e u a) = c_input e (conforms_fields a)
  conforms (t_any_list e a u) = c_any_list e u
  conforms (t_any_object e a u) = c_any_object e u

  conforms_all : {S : Schema} {R : Rule} {p : Form} {t : Ty} {xs : Raws} {rs : Recs} → TakesAll S R p t xs rs → ConformsAll S R t rs
  conforms_all t_nil = c_nil
  conforms_all (t_cons a c) = c_cons (conforms a) (conforms_all c)

  conforms_fields : {S : Schema} {R : Rule} {p : Form} {fs : List Field} {ms : Mems} {rs : Rmems} → TakesFields S R p fs ms rs → ConformsFields S R fs rs
  conforms_fields t_end = f_end
  conforms_fields (t_some e x a c) = f_has e (conforms a) (conforms_fields c)
  conforms_fields (t_none {f = f} {ms = ms} e n c) = f_absent n (no_default (member ms f.name) f.dflt e) (conforms_fields c)

pub accepts_conforming : AcceptsConforming
accepts_conforming k S R p h v t r e = conforms (taken k S R p h v t r e)
