-- the relation has one outcome, shown without the function on values
use Rattle.std.proofs.Common.{◌≡◌, ℕ, List, sym, refl, ap, ◌∙◌, subst, ap₂, arith}
use mathlib.Core.Option.{Option, none, some}
use Rattle.model.specs.Values.{Form, Scalar, Raw, Raws, Mems, Ty, Field, Def, input_d, custom_d, Schema, Plain, Rec, Recs, Rmems, r_plain, r_list, r_object, r_cons, r_mem}
use Rattle.model.specs.Scalars.{TakesScalar}
use Rattle.model.specs.Coercion.{Rule, member}
use Rattle.model.specs.Taking.{Keeps, KeepsAll, KeepsMems, k_null, k_scalar, k_list, k_object, k_nil, k_cons, k_end, k_mem, form_of, Takes, TakesAll, TakesFields, t_null, t_scalar, t_list, t_input, t_any_list, t_any_object, t_nil, t_cons, t_end, t_some, t_none}
use Rattle.model.specs.Laws.{TakesOnce}
use Rattle.model.proofs.CoScalars.{scalar_taken}

input_any : {D : Def} {fs : List Field} → D ≡ input_d fs → D ≡ custom_d → ⊥
input_any a b = let z : ◌≡◌ {A = ℕ} 0 1 = cc in omega arith

one_input : {D : Def} {fs gs : List Field} → D ≡ input_d fs → D ≡ input_d gs → fs ≡ gs
one_input a b = cc

none_some : {o : Option Raw} {x : Raw} → o ≡ none → o ≡ some x → ⊥
none_some a b = let z : ◌≡◌ {A = ℕ} 0 1 = cc in omega arith

one_some : {X : Type 0} {o : Option X} {x y : X} → o ≡ some x → o ≡ some y → x ≡ y
one_some a b = cc

mutual
  pub keeps_once : {x : Raw} {r s : Rec} → Keeps x r → Keeps x s → r ≡ s
  keeps_once k_null k_null = refl
  keeps_once (k_scalar e) (k_scalar f) = ap r_plain (sym e ∙ f)
  keeps_once (k_list a) (k_list b) = ap r_list (keeps_all_once a b)
  keeps_once (k_object a) (k_object b) = ap r_object (keeps_mems_once a b)

  pub keeps_all_once : {xs : Raws} {rs ss : Recs} → KeepsAll xs rs → KeepsAll xs ss → rs ≡ ss
  keeps_all_once k_nil k_nil = refl
  keeps_all_once (k_cons a c) (k_cons b d) = ap₂ r_cons (keeps_once a b) (keeps_all_once c d)

  pub keeps_mems_once : {ms : Mems} {rs ss : Rmems} → KeepsMems ms rs → KeepsMems ms ss → rs ≡ ss
  keeps_mems_once k_end k_end = refl
  keeps_mems_once (k_mem {n = n} a c) (k_mem b d) = ap₂ (r_mem n) (keeps_once a b) (keeps_mems_once c d)

scalar_once : {p : Form} {D : Def} {s : Scalar} {x y : Plain} → TakesScalar p D s x → TakesScalar p D s y → x ≡ y
scalar_once a b = one_some (scalar_taken a) (scalar_taken b)

mutual
  pub once : {S : Schema} {R : Rule} {p : Form} {t : Ty} {v : Raw} {r s : Rec} → Takes S R p t v r → Takes S R p t v s → r ≡ s
  once (t_null e) (t_null f) = refl
  once (t_null e) (t_list u b) = absurd u
  once (t_scalar a _) (t_scalar b _) = ap r_plain (scalar_once a b)
  once (t_list u a) (t_null f) = absurd u
  once (t_list u a) (t_list w b) = ap r_list (once_all a b)
  once {S} {R} {p} (t_input {ms = ms} e _ a) (t_input {rs = ss} f _ b) = ap r_object (once_fields a (subst (λ gs. TakesFields S R p gs ms ss) (one_input f e) b))
  once (t_input e _ a) (t_any_object f b _) = absurd (input_any e f)
  once (t_any_list e a _) (t_any_list f b _) = ap r_list (keeps_all_once a b)
  once (t_any_object e a _) (t_input f _ b) = absurd (input_any f e)
  once (t_any_object e a _) (t_any_object f b _) = ap r_object (keeps_mems_once a b)

  once_all : {S : Schema} {R : Rule} {p : Form} {t : Ty} {xs : Raws} {rs ss : Recs} → TakesAll S R p t xs rs → TakesAll S R p t xs ss → rs ≡ ss
  once_all t_nil t_nil = refl
  once_all (t_cons a c) (t_cons b d) = ap₂ r_cons (once a b) (once_all c d)

  once_fields : {S : Schema} {R : Rule} {p : Form} {fs : List Field} {ms : Mems} {rs ss : Rmems} → TakesFields S R p fs ms rs → TakesFields S R p fs ms ss → rs ≡ ss
  once_fields t_end t_end = refl
  once_fields {S} {R} {p} (t_some {f = k} {ms = ms} {r = r} e x a c) (t_some {r = s} f y b d) =
      let o : r ≡ s = once a (subst (λ z. Takes S R (form_of p (member ms k.name)) k.ty z s) (one_some y x) b) in
      let t = once_fields c d in
      cc
  once_fields (t_some e x a c) (t_none y _ d) = absurd (none_some y x)
  once_fields (t_none x _ c) (t_some f y b d) = absurd (none_some x y)
  once_fields (t_none x _ c) (t_none y _ d) = once_fields c d

pub takes_once : TakesOnce
takes_once S R p t v r s a b = once a b
