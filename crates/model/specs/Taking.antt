-- What a raw value comes to at a type: the acceptances alone, with neither refusals nor bounds.
use Rattle.std.specs.Prelude.{◌≡◌, ℕ, Bool, true, List, [], ◌∷◌}
use Rattle.std.proofs.Math.Option.{Option, none, some}
use Rattle.model.specs.Values.{Name, Form, literal, Scalar, Raw, Raws, Mems, null, scalar, variable, list, object, nil, cons, end, mem, Ty, named, list_of, nullable, Field, input_d, custom_d, Schema, find, Plain, Rec, Recs, Rmems, r_null, r_plain, r_list, r_object, r_nil, r_cons, r_end, r_mem, field_names}
use Rattle.model.specs.Records.{encode}
use Rattle.model.specs.Scalars.{plain, TakesScalar}
use Rattle.model.specs.Coercion.{Rule, passes, first_undeclared, member}

-- the contents of a custom scalar, as they are kept
mutual
  pub data Keeps : Raw → Rec → Type 0 where
    k_null : {at : ℕ} → Keeps (null at) r_null
    k_scalar : {at : ℕ} {s : Scalar} {x : Plain} → plain s ≡ x → Keeps (scalar at s) (r_plain x)
    k_list : {at : ℕ} {xs : Raws} {rs : Recs} → KeepsAll xs rs → Keeps (list at xs) (r_list rs)
    k_object : {at : ℕ} {ms : Mems} {rs : Rmems} → KeepsMems ms rs → Keeps (object at ms) (r_object rs)

  pub data KeepsAll : Raws → Recs → Type 0 where
    k_nil : KeepsAll nil r_nil
    k_cons : {x : Raw} {xs : Raws} {r : Rec} {rs : Recs} → Keeps x r → KeepsAll xs rs → KeepsAll (cons x xs) (r_cons r rs)

  pub data KeepsMems : Mems → Rmems → Type 0 where
    k_end : KeepsMems end r_end
    k_mem : {n : Name} {x : Raw} {ms : Mems} {r : Rec} {rs : Rmems} → Keeps x r → KeepsMems ms rs → KeepsMems (mem n x ms) (r_mem n r rs)

-- a value that stands for something at a list type: no null and no variable
abbrev pub Present : Raw → Type 0
Present (null at) = ⊥
Present (scalar at s) = Unit {0}
Present (variable at n) = ⊥
Present (list at xs) = Unit {0}
Present (object at ms) = Unit {0}

-- a value as a list: a list's items, or the value alone
abbrev pub items : Raw → Raws
items (null at) = cons (null at) nil
items (scalar at s) = cons (scalar at s) nil
items (variable at n) = cons (variable at n) nil
items (list at xs) = xs
items (object at ms) = cons (object at ms) nil

abbrev pub or_else : Option Raw → Option Raw → Option Raw
or_else (some x) o = some x
or_else none o = o

-- what stands for a field: its member, else its default
abbrev pub standing : Mems → Field → Option Raw
standing ms f = or_else (member ms f.name) f.dflt

-- the form of what stands: a member has the object's, a default is a literal
abbrev pub form_of : Form → Option Raw → Form
form_of p (some x) = p
form_of p none = literal

mutual
  pub data Takes (S : Schema) (R : Rule) : Form → Ty → Raw → Rec → Type 0 where
    t_null : {p : Form} {t : Ty} {at : ℕ} → nullable t ≡ true → Takes S R p t (null at) r_null
    t_scalar : {p : Form} {b : Bool} {n : Name} {at : ℕ} {s : Scalar} {x : Plain} → TakesScalar p (find S n) s x → passes R n (find S n) (r_plain x) ≡ true → Takes S R p (named b n) (scalar at s) (r_plain x)
    t_list : {p : Form} {b : Bool} {t : Ty} {v : Raw} {rs : Recs} → Present v → TakesAll S R p t (items v) rs → Takes S R p (list_of b t) v (r_list rs)
    t_input : {p : Form} {b : Bool} {n : Name} {at : ℕ} {fs : List Field} {ms : Mems} {rs : Rmems} → find S n ≡ input_d fs → first_undeclared (field_names fs) ms ≡ none → TakesFields S R p fs ms rs → Takes S R p (named b n) (object at ms) (r_object rs)
    t_any_list : {p : Form} {b : Bool} {n : Name} {at : ℕ} {xs : Raws} {rs : Recs} → find S n ≡ custom_d → KeepsAll xs rs → R n (encode (r_list rs)) ≡ true → Takes S R p (named b n) (list at xs) (r_list rs)
    t_any_object : {p : Form} {b : Bool} {n : Name} {at : ℕ} {ms : Mems} {rs : Rmems} → find S n ≡ custom_d → KeepsMems ms rs → R n (encode (r_object rs)) ≡ true → Takes S R p (named b n) (object at ms) (r_object rs)

  pub data TakesAll (S : Schema) (R : Rule) : Form → Ty → Raws → Recs → Type 0 where
    t_nil : {p : Form} {t : Ty} → TakesAll S R p t nil r_nil
    t_cons : {p : Form} {t : Ty} {x : Raw} {xs : Raws} {r : Rec} {rs : Recs} → Takes S R p t x r → TakesAll S R p t xs rs → TakesAll S R p t (cons x xs) (r_cons r rs)

  -- the fields in the order of their definition; one has nothing where neither a member nor a default stands for it, and then it is nullable
  pub data TakesFields (S : Schema) (R : Rule) : Form → List Field → Mems → Rmems → Type 0 where
    t_end : {p : Form} {ms : Mems} → TakesFields S R p [] ms r_end
    t_some : {p : Form} {f : Field} {fs : List Field} {ms : Mems} {x : Raw} {n : Name} {r : Rec} {rs : Rmems} → f.name ≡ n → standing ms f ≡ some x → Takes S R (form_of p (member ms f.name)) f.ty x r → TakesFields S R p fs ms rs → TakesFields S R p (f ∷ fs) ms (r_mem n r rs)
    t_none : {p : Form} {f : Field} {fs : List Field} {ms : Mems} {rs : Rmems} → standing ms f ≡ none → nullable f.ty ≡ true → TakesFields S R p fs ms rs → TakesFields S R p (f ∷ fs) ms rs
