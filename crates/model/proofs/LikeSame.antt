-- Values that come to the same are alike, and alike ones come to the same.
use Rattle.std.proofs.Common.{◌≡◌, ℕ, Bool, true, false, cond, List, ◌∷◌, sym, refl, ap, ◌∙◌, subst, ap₂, subst₂, arith}
use mathlib.Core.Option.{Option, none, some}
use Rattle.std.proofs.lemmas.Bool.{both_ways}
use Rattle.model.specs.Values.{Name, Form, Raw, Raws, Mems, null, scalar, variable, list, object, end, mem, Ty, Field, Def, input_d, custom_d, Schema, Rec, Recs, Rmems, r_plain, r_list, r_object, r_cons, r_mem, same, has, field_names}
use Rattle.model.specs.Refusals.{ok, Here}
use Rattle.model.specs.Coercion.{Rule, member, coerce_at}
use Rattle.model.specs.Taking.{Keeps, KeepsAll, KeepsMems, k_null, k_scalar, k_list, k_object, k_nil, k_cons, k_end, k_mem, items, or_else, standing, Takes, TakesAll, TakesFields, t_null, t_scalar, t_list, t_input, t_any_list, t_any_object, t_nil, t_cons, t_end, t_some, t_none}
use Rattle.model.specs.Back.{Distinct, Proper}
use Rattle.model.specs.Bounds.{OfDefault, EachDefault}
use Rattle.model.specs.Likeness.{AlikeIn, AlikeInAll, AlikeInMems, in_null, in_scalar, in_list, in_object, in_nil, in_cons, in_end, in_mem, Alike, AlikeAll, AlikeFields, like_null, like_scalar, like_list, like_input, like_any_list, like_any_object, like_nil, like_cons, like_end, like_both, like_neither, Normal, NormalAll, NormalMems, NormalSchema}
use Rattle.model.specs.Laws.{SameWhenAlike}
use Rattle.model.proofs.CoNames.{has_head, has_later, of_input}
use Rattle.model.proofs.LikeNumbers.{Numbered, kept_like, kept_agree, scalar_like, scalar_agree}

input_any : {D : Def} {fs : List Field} → D ≡ input_d fs → D ≡ custom_d → ⊥
input_any a b = let z : ◌≡◌ {A = ℕ} 0 1 = cc in omega arith

one_input : {D : Def} {fs gs : List Field} → D ≡ input_d fs → D ≡ input_d gs → fs ≡ gs
one_input a b = cc

none_some : {o : Option Raw} {x : Raw} → o ≡ none → o ≡ some x → ⊥
none_some a b = let z : ◌≡◌ {A = ℕ} 0 1 = cc in omega arith

one_some : {o : Option Raw} {x y : Raw} → o ≡ some x → o ≡ some y → x ≡ y
one_some a b = cc

-- contents that are kept as the same are alike
mutual
  keeps_like : Numbered → {v w : Raw} {r : Rec} → Keeps v r → Keeps w r → AlikeIn v w
  keeps_like N k_null k_null = in_null
  keeps_like N (k_scalar {s = x} a) (k_scalar {s = y} b) = in_scalar (kept_like N x y (a ∙ sym b))
  keeps_like N (k_list a) (k_list b) = in_list (keeps_like_all N a b)
  keeps_like N (k_object a) (k_object b) = in_object (keeps_like_mems N a b)

  keeps_like_all : Numbered → {xs ys : Raws} {rs : Recs} → KeepsAll xs rs → KeepsAll ys rs → AlikeInAll xs ys
  keeps_like_all N k_nil k_nil = in_nil
  keeps_like_all N (k_cons a c) (k_cons b d) = in_cons (keeps_like N a b) (keeps_like_all N c d)

  keeps_like_mems : Numbered → {ms ns : Mems} {rs : Rmems} → KeepsMems ms rs → KeepsMems ns rs → AlikeInMems ms ns
  keeps_like_mems N k_end k_end = in_end
  keeps_like_mems N (k_mem a c) (k_mem b d) = in_mem refl (keeps_like N a b) (keeps_like_mems N c d)

-- and alike ones are kept as the same
mutual
  keeps_agree : Numbered → {v w : Raw} {r s : Rec} → Keeps v r → AlikeIn v w → Keeps w s → Normal v → Normal w → r ≡ s
  keeps_agree N k_null in_null k_null f g = refl
  keeps_agree N (k_scalar a) (in_scalar l) (k_scalar b) f g = ap r_plain (sym a ∙ kept_agree N l f g ∙ b)
  keeps_agree N (k_list a) (in_list l) (k_list b) f g = ap r_list (keeps_agree_all N a l b f g)
  keeps_agree N (k_object a) (in_object l) (k_object b) f g = ap r_object (keeps_agree_mems N a l b f g)

  keeps_agree_all : Numbered → {xs ys : Raws} {rs ss : Recs} → KeepsAll xs rs → AlikeInAll xs ys → KeepsAll ys ss → NormalAll xs → NormalAll ys → rs ≡ ss
  keeps_agree_all N k_nil in_nil k_nil f g = refl
  keeps_agree_all N (k_cons a c) (in_cons l m) (k_cons b d) f g = ap₂ r_cons (keeps_agree N a l b f.0 g.0) (keeps_agree_all N c m d f.1 g.1)

  keeps_agree_mems : Numbered → {ms ns : Mems} {rs ss : Rmems} → KeepsMems ms rs → AlikeInMems ms ns → KeepsMems ns ss → NormalMems ms → NormalMems ns → rs ≡ ss
  keeps_agree_mems N k_end in_end k_end f g = refl
  keeps_agree_mems N (k_mem a c) (in_mem e l m) (k_mem b d) f g =
      let o = keeps_agree N a l b f.0 g.0 in
      let t = keeps_agree_mems N c m d f.1 g.1 in
      cc

-- the first member of the record is a field
in_names : {S : Schema} {R : Rule} {p : Form} {fs : List Field} {ms : Mems} {n : Name} {r : Rec} {rs : Rmems} → TakesFields S R p fs ms (r_mem n r rs) → has (field_names fs) n ≡ true
in_names (t_some {f = f} {fs = fs} e x a g) = subst (λ n. has (f.name ∷ field_names fs) n ≡ true) e (has_head f.name (field_names fs))
in_names {n = n} (t_none {f = f} {fs = fs} e _ g) = has_later f.name n (field_names fs) (in_names g)

strange : {S : Schema} {R : Rule} {p : Form} {fs : List Field} {ms : Mems} {n : Name} {r : Rec} {rs : Rmems} (m : Name) → has (field_names fs) m ≡ false → m ≡ n → TakesFields S R p fs ms (r_mem n r rs) → ⊥
strange {fs = fs} m u e g = both_ways (has (field_names fs) m) u (subst (λ n. has (field_names fs) n ≡ true) (sym e) (in_names g))

-- the items of a value in normal form are
normal_items : (v : Raw) → Normal v → NormalAll (items v)
normal_items (null at) h = (h, tt)
normal_items (scalar at s) h = (h, tt)
normal_items (variable at n) h = (h, tt)
normal_items (list at xs) h = h
normal_items (object at ms) h = (h, tt)

abbrev Some : (Raw → Type 0) → Option Raw → Type 0
Some P none = Unit {0}
Some P (some x) = P x

some_cond : (P : Raw → Type 0) (b : Bool) (x : Raw) (o : Option Raw) → P x → Some P o → Some P (cond b (some x) o)
some_cond P true x o h k = h
some_cond P false x o h k = k

normal_member : (ms : Mems) (n : Name) → NormalMems ms → Some Normal (member ms n)
normal_member end n h = tt
normal_member (mem m x ms) n h = some_cond Normal (same m n) x (member ms n) h.0 (normal_member ms n h.1)

normal_else : (t : Ty) (m o : Option Raw) → Some Normal m → OfDefault (λ x t. Normal x) t o → Some Normal (or_else m o)
normal_else t (some x) o h k = h
normal_else t none none h k = tt
normal_else t none (some x) h k = k

-- what stands for a field is in normal form
normal_standing : (ms : Mems) (f : Field) (x : Raw) → NormalMems ms → OfDefault (λ x t. Normal x) f.ty f.dflt → standing ms f ≡ some x → Normal x
normal_standing ms f x h k e = subst (Some Normal) e (normal_else f.ty (member ms f.name) f.dflt (normal_member ms f.name h) k)

abbrev NormalFields : List Field → Type 0
NormalFields fs = EachDefault (λ x t. Normal x) fs

-- the same record: alike
mutual
  alike : Numbered → {S : Schema} {R : Rule} {p q : Form} {t : Ty} {v w : Raw} {r : Rec} → Takes S R p t v r → Proper S → NormalSchema S → Normal v → Normal w → Takes S R q t w r → Alike S t v w
  alike N (t_null _) h i f g (t_null _) = like_null
  alike N (t_scalar a _) h i f g (t_scalar b _) = like_scalar (scalar_like N a f b g)
  alike N (t_list {v = v} u a) h i f g (t_list {v = w} y b) = like_list u y (alike_all N a h i (normal_items v f) (normal_items w g) b)
  alike N {S} {R} {q = q} (t_input {n = n} {fs = fs} e _ a) h i f g (t_input {ms = ns} {rs = rs} k _ b) =
      like_input e (alike_fields N a h i (of_input (λ gs. Distinct (field_names gs)) S h n fs e) (of_input NormalFields S i n fs e) f g (subst (λ gs. TakesFields S R q gs ns rs) (one_input k e) b))
  alike N (t_input e _ a) h i f g (t_any_object k b _) = absurd (input_any e k)
  alike N (t_any_list e a _) h i f g (t_any_list k b _) = like_any_list e (keeps_like_all N a b)
  alike N (t_any_object e a _) h i f g (t_input k _ b) = absurd (input_any k e)
  alike N (t_any_object e a _) h i f g (t_any_object k b _) = like_any_object e (keeps_like_mems N a b)

  alike_all : Numbered → {S : Schema} {R : Rule} {p q : Form} {t : Ty} {xs ys : Raws} {rs : Recs} → TakesAll S R p t xs rs → Proper S → NormalSchema S → NormalAll xs → NormalAll ys → TakesAll S R q t ys rs → AlikeAll S t xs ys
  alike_all N t_nil h i f g t_nil = like_nil
  alike_all N (t_cons a c) h i f g (t_cons b d) = like_cons (alike N a h i f.0 g.0 b) (alike_all N c h i f.1 g.1 d)

  alike_fields : Numbered → {S : Schema} {R : Rule} {p q : Form} {fs : List Field} {ms ns : Mems} {rs : Rmems} → TakesFields S R p fs ms rs → Proper S → NormalSchema S → Distinct (field_names fs) → NormalFields fs → NormalMems ms → NormalMems ns → TakesFields S R q fs ns rs → AlikeFields S fs ms ns
  alike_fields N t_end h i u j f g t_end = like_end
  alike_fields N (t_some {f = m} {ms = ms} e x a c) h i u j f g (t_some {ms = ns} k y b d) =
      like_both x y (alike N a h i (normal_standing ms m _ f j.0 x) (normal_standing ns m _ g j.0 y) b) (alike_fields N c h i u.1 j.1 f g d)
  alike_fields N (t_some {f = m} e x a c) h i u j f g (t_none y _ d) = absurd (strange m.name u.0 e d)
  alike_fields N (t_none {f = m} x _ c) h i u j f g (t_some k y b d) = absurd (strange m.name u.0 k c)
  alike_fields N (t_none x _ c) h i u j f g (t_none y _ d) = like_neither x y (alike_fields N c h i u.1 j.1 f g d)

-- alike: the same record
mutual
  agree : Numbered → {S : Schema} {R : Rule} {p q : Form} {t : Ty} {v w : Raw} {r s : Rec} → Takes S R p t v r → Alike S t v w → NormalSchema S → Normal v → Normal w → Takes S R q t w s → r ≡ s
  agree N (t_null _) like_null i f g (t_null _) = refl
  agree N (t_null _) like_null i f g (t_list u x) = absurd u
  agree N (t_null _) (like_list u w x) i f g b = absurd u
  agree N (t_scalar a _) (like_scalar e) i f g (t_scalar b _) = ap r_plain (scalar_agree N e a f b g)
  agree N (t_list u a) like_null i f g b = absurd u
  agree N (t_list u a) (like_list y z x) i f g (t_null _) = absurd z
  agree N (t_list {v = v} u a) (like_list y z x) i f g (t_list {v = w} _ b) = ap r_list (agree_all N a x i (normal_items v f) (normal_items w g) b)
  agree N {S} {R} {q = q} (t_input {n = n} {fs = fs} {ms = ms} {rs = rs} e _ a) (like_input k x) i f g (t_input {ms = ns} {rs = ss} l _ b) =
      ap r_object (agree_fields N a (subst (λ gs. AlikeFields S gs ms ns) (one_input k e) x) i (of_input NormalFields S i n fs e) f g (subst (λ gs. TakesFields S R q gs ns ss) (one_input l e) b))
  agree N (t_input e _ a) (like_input k x) i f g (t_any_object l b _) = absurd (input_any e l)
  agree N (t_input e _ a) (like_any_object k x) i f g b = absurd (input_any e k)
  agree N (t_any_list e a _) (like_any_list k x) i f g (t_any_list l b _) = ap r_list (keeps_agree_all N a x b f g)
  agree N (t_any_object e a _) (like_input k x) i f g b = absurd (input_any k e)
  agree N (t_any_object e a _) (like_any_object k x) i f g (t_input l _ b) = absurd (input_any l e)
  agree N (t_any_object e a _) (like_any_object k x) i f g (t_any_object l b _) = ap r_object (keeps_agree_mems N a x b f g)

  agree_all : Numbered → {S : Schema} {R : Rule} {p q : Form} {t : Ty} {xs ys : Raws} {rs ss : Recs} → TakesAll S R p t xs rs → AlikeAll S t xs ys → NormalSchema S → NormalAll xs → NormalAll ys → TakesAll S R q t ys ss → rs ≡ ss
  agree_all N t_nil like_nil i f g t_nil = refl
  agree_all N (t_cons a c) (like_cons x y) i f g (t_cons b d) = ap₂ r_cons (agree N a x i f.0 g.0 b) (agree_all N c y i f.1 g.1 d)

  agree_fields : Numbered → {S : Schema} {R : Rule} {p q : Form} {fs : List Field} {ms ns : Mems} {rs ss : Rmems} → TakesFields S R p fs ms rs → AlikeFields S fs ms ns → NormalSchema S → NormalFields fs → NormalMems ms → NormalMems ns → TakesFields S R q fs ns ss → rs ≡ ss
  agree_fields N t_end like_end i j f g t_end = refl
  agree_fields N {S} (t_some {f = k} {ms = ms} e x a c) (like_both p q l m) i j f g (t_some {ms = ns} u y b d) =
      let o = agree N a (subst₂ (Alike S k.ty) (one_some p x) (one_some q y) l) i (normal_standing ms k _ f j.0 x) (normal_standing ns k _ g j.0 y) b in
      let t = agree_fields N c m i j.1 f g d in
      cc
  agree_fields N (t_some e x a c) (like_both p q l m) i j f g (t_none y _ d) = absurd (none_some y q)
  agree_fields N (t_some e x a c) (like_neither p q m) i j f g b = absurd (none_some p x)
  agree_fields N (t_none x _ c) (like_both p q l m) i j f g b = absurd (none_some x p)
  agree_fields N (t_none x _ c) (like_neither p q m) i j f g (t_some u y b d) = absurd (none_some q y)
  agree_fields N (t_none x _ c) (like_neither p q m) i j f g (t_none y _ d) = agree_fields N c m i j.1 f g d

-- what is accepted is taken
abbrev pub Taken : Type 0
Taken = (k : ℕ) (S : Schema) (R : Rule) (p : Form) (h : Here) (v : Raw) (t : Ty) (r : Rec) → coerce_at k S R p h v t ≡ ok r → Takes S R p t v r

pub same_when_alike_from : Numbered → Taken → SameWhenAlike
same_when_alike_from N taken k l S R h i p q a b v w t r s f g c d =
    (λ e. alike N (subst (Takes S R p t v) e (taken k S R p a v t r c)) h i f g (taken l S R q b w t s d), λ e. agree N (taken k S R p a v t r c) e i f g (taken l S R q b w t s d))
