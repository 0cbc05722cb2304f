-- Being twins is an equivalence, and whatever shows one record is twins.
use Rattle.std.proofs.Common.{sym, refl, ◌∙◌}
use Rattle.model.specs.Values.{Raw, Raws, Mems, null, scalar, variable, list, object, nil, cons, end, mem, Rec, Recs, Rmems}
use Rattle.model.specs.Back.{Shows, ShowsAll, ShowsMems, s_null, s_plain, s_list, s_object, s_nil, s_cons, s_end, s_mem}
use Rattle.model.specs.Twins.{Twin, TwinAll, TwinMems, w_null, w_scalar, w_variable, w_list, w_object, w_nil, w_cons, w_end, w_mem}
use Rattle.model.specs.Laws.{ShownAreTwins}

mutual
  itself : (x : Raw) → Twin x x
  itself (null at) = w_null
  itself (scalar at s) = w_scalar refl
  itself (variable at n) = w_variable refl
  itself (list at xs) = w_list (itself_all xs)
  itself (object at ms) = w_object (itself_mems ms)

  itself_all : (xs : Raws) → TwinAll xs xs
  itself_all nil = w_nil
  itself_all (cons x xs) = w_cons (itself x) (itself_all xs)

  itself_mems : (ms : Mems) → TwinMems ms ms
  itself_mems end = w_end
  itself_mems (mem n x ms) = w_mem refl (itself x) (itself_mems ms)

mutual
  back : {x y : Raw} → Twin x y → Twin y x
  back w_null = w_null
  back (w_scalar e) = w_scalar (sym e)
  back (w_variable e) = w_variable (sym e)
  back (w_list ws) = w_list (back_all ws)
  back (w_object ws) = w_object (back_mems ws)

  back_all : {xs ys : Raws} → TwinAll xs ys → TwinAll ys xs
  back_all w_nil = w_nil
  back_all (w_cons w ws) = w_cons (back w) (back_all ws)

  back_mems : {ms ns : Mems} → TwinMems ms ns → TwinMems ns ms
  back_mems w_end = w_end
  back_mems (w_mem e w ws) = w_mem (sym e) (back w) (back_mems ws)

mutual
  on : {x y z : Raw} → Twin x y → Twin y z → Twin x z
  on w_null w_null = w_null
  on (w_scalar e) (w_scalar f) = w_scalar (e ∙ f)
  on (w_variable e) (w_variable f) = w_variable (e ∙ f)
  on (w_list ws) (w_list vs) = w_list (on_all ws vs)
  on (w_object ws) (w_object vs) = w_object (on_mems ws vs)

  on_all : {xs ys zs : Raws} → TwinAll xs ys → TwinAll ys zs → TwinAll xs zs
  on_all w_nil w_nil = w_nil
  on_all (w_cons w ws) (w_cons v vs) = w_cons (on w v) (on_all ws vs)

  on_mems : {ms ns os : Mems} → TwinMems ms ns → TwinMems ns os → TwinMems ms os
  on_mems w_end w_end = w_end
  on_mems (w_mem e w ws) (w_mem f v vs) = w_mem (e ∙ f) (on w v) (on_mems ws vs)

mutual
  shown : {r : Rec} {x y : Raw} → Shows r x → Shows r y → Twin x y
  shown s_null s_null = w_null
  shown (s_plain e) (s_plain f) = w_scalar (sym e ∙ f)
  shown (s_list a) (s_list b) = w_list (shown-all a b)
  shown (s_object a) (s_object b) = w_object (shown-mems a b)

  shown-all : {rs : Recs} {xs ys : Raws} → ShowsAll rs xs → ShowsAll rs ys → TwinAll xs ys
  shown-all s_nil s_nil = w_nil
  shown-all (s_cons a c) (s_cons b d) = w_cons (shown a b) (shown-all c d)

  shown-mems : {rs : Rmems} {ms ns : Mems} → ShowsMems rs ms → ShowsMems rs ns → TwinMems ms ns
  shown-mems s_end s_end = w_end
  shown-mems (s_mem a c) (s_mem b d) = w_mem refl (shown a b) (shown-mems c d)

pub shown-are_twins : ShownAreTwins
shown-are_twins = (itself, (λ x y w. back w), (λ x y z w v. on w v), (λ r x y a b. shown a b), (λ rs ms ns a b. shown-mems a b))
