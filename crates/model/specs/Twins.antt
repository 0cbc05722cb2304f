-- Raw values that are the same but for their places, and outcomes that are the same but for the places of refusals.
use Rattle.std.specs.Prelude.{◌≡◌, ℕ, List, [], ◌∷◌}
use Rattle.std.proofs.Math.Option.{Option, none, some}
use Rattle.model.specs.Values.{Name, Form, Scalar, Raw, Raws, Mems, null, scalar, variable, list, object, nil, cons, end, mem}
use Rattle.model.specs.Refusals.{Refusal, Out, ok, refused, beyond, and_then}
use Rattle.model.specs.Coercion.{Slots}
use Rattle.model.specs.Calls.{Sheet, State, Call, load, supply, withdraw}

mutual
  pub data Twin : Raw → Raw → Type 0 where
    w_null : {a b : ℕ} → Twin (null a) (null b)
    w_scalar : {a b : ℕ} {s t : Scalar} → s ≡ t → Twin (scalar a s) (scalar b t)
    w_variable : {a b : ℕ} {m n : Name} → m ≡ n → Twin (variable a m) (variable b n)
    w_list : {a b : ℕ} {xs ys : Raws} → TwinAll xs ys → Twin (list a xs) (list b ys)
    w_object : {a b : ℕ} {ms ns : Mems} → TwinMems ms ns → Twin (object a ms) (object b ns)

  pub data TwinAll : Raws → Raws → Type 0 where
    w_nil : TwinAll nil nil
    w_cons : {x y : Raw} {xs ys : Raws} → Twin x y → TwinAll xs ys → TwinAll (cons x xs) (cons y ys)

  pub data TwinMems : Mems → Mems → Type 0 where
    w_end : TwinMems end end
    w_mem : {m n : Name} {x y : Raw} {ms ns : Mems} → m ≡ n → Twin x y → TwinMems ms ns → TwinMems (mem m x ms) (mem n y ns)

-- two refusals have the same cause and concern the same variable and the same field; their places are free
pub record SameRefusal (f g : Refusal) : Type 0 where
  pub cause : f.cause ≡ g.cause
  pub variable : f.variable ≡ g.variable
  pub field : f.field ≡ g.field

-- both accept and give the same, or both refuse alike but for the place, or both are beyond the bound
pub data SameOut {X : Type 0} : Out X → Out X → Type 0 where
  both_ok : {x y : X} → x ≡ y → SameOut (ok x) (ok y)
  both_refused : {f g : Refusal} → SameRefusal f g → SameOut (refused f) (refused g)
  both_beyond : SameOut beyond beyond

-- two calls are the same but for the places in what they give
pub data TwinCall : Call → Call → Type 0 where
  w_load : {p q : Form} {x y : Raw} → p ≡ q → Twin x y → TwinCall (load p x) (load q y)
  w_supply : {m n : Name} {p q : Form} {x y : Raw} → m ≡ n → p ≡ q → Twin x y → TwinCall (supply m p x) (supply n q y)
  w_withdraw : {m n : Name} → m ≡ n → TwinCall (withdraw m) (withdraw n)

pub data TwinCalls : List Call → List Call → Type 0 where
  w_none : TwinCalls [] []
  w_next : {c e : Call} {cs es : List Call} → TwinCall c e → TwinCalls cs es → TwinCalls (c ∷ cs) (e ∷ es)

-- the slots of the sheet that an answer has, and of the sheet that stands
abbrev pub slots_given : Out Sheet → Out Slots
slots_given o = and_then o (λ s. ok s.slots)

abbrev pub slots_kept : State → Option Slots
slots_kept none = none
slots_kept (some s) = some s.slots
