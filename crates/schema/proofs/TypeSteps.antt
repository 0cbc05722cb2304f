-- The steps of reading a type: its lists are opened, its name comes, and they are closed.
use Rattle.std.proofs.Common.{◌≡◌, ℕ, zero, suc, ◌+◌, ◌-◌, ◌<◌, ◌≤◌, Bool, true, false, not, List, ◌∷◌, length, set, get_or-set_other, get_or-set_same, sym, refl, ap, ap₂, ◌∙◌, subst, arith}
use Rattle.std.proofs.Math.Option.{none}
use Rattle.model.specs.Values.{Name, named, list_of}
use Rattle.text.specs.declared.fault.Fault.{Fault}
use Rattle.text.specs.declared.fault.Fault.TheVariants.{TooDeep}
use Rattle.text.specs.TokenGrammar.{bang, open_bracket, close_bracket, Lexical, a_mark, a_name, a_number, a_string, the_end}
use Rattle.reader.specs.Tokens.{Sight, sees, blind}
use Rattle.reader.specs.Reading.{Out, got, fails, is_mark, sees_mark}
use Rattle.schema.specs.Documents.{Label, Typed}
use Rattle.schema.specs.Outcomes.{Goes, Gives, Takes, the_mark, any_name, Chosen}
use Rattle.schema.specs.Types.{name_at, list_at, required_at, begins_type, ty_from, ReadsMark, ReadsEnd, ReadsType, t_blind, t_bad, t_deep, t_named, t_list}
use Rattle.schema.specs.TypeTold.{Wrapped, ReadsBang}
use Rattle.schema.proofs.Seeing.{refused_is, name_seen}

-- the type after which a `!` stands, or none
abbrev pub marked : Bool → Typed → Typed
marked true t = required_at t
marked false t = t

-- as the program keeps it
abbrev pub kept : List Bool → Name → ℕ → ℕ → Typed
kept marks w s k = record { ty = ty_from marks w k; place = s }

pub kept_name : (b : Bool) (bs : List Bool) (w : Name) (s : ℕ) → marked b (name_at w s) ≡ kept (b ∷ bs) w s 0
kept_name true bs w s = refl
kept_name false bs w s = refl

-- marks from a level on change nothing below it
ty_below : (marks : List Bool) (w : Name) (n k : ℕ) (b : Bool) → k < n → ty_from (set marks n b) w k ≡ ty_from marks w k
ty_below marks w n zero b h = ap (λ c. named (not c) w) (get_or-set_other marks n 0 b false (λ e. omega arith))
ty_below marks w n (suc k) b h = ap₂ (λ c t. list_of (not c) t) (get_or-set_other marks n (suc k) b false (λ e. omega arith)) (ty_below marks w n k b (omega arith))

marked_list : (b : Bool) (t : Typed) → marked b (list_at t) ≡ record { ty = list_of (not b) t.ty; place = t.place }
marked_list true t = refl
marked_list false t = refl

pub kept_list : (marks : List Bool) (w : Name) (s k : ℕ) (b : Bool) → suc k < length marks → marked b (list_at (kept marks w s k)) ≡ kept (set marks (suc k) b) w s (suc k)
kept_list marks w s k b h =
    marked_list b (kept marks w s k)
    ∙ ap (λ t. record { ty = t; place = s }) (ap₂ (λ c t. list_of (not c) t) (sym (get_or-set_same marks (suc k) b false h)) (sym (ty_below marks w (suc k) k b (omega arith))))

bang_by : (c : Bool) (t : Typed) (i s e j : ℕ) (b : Bool) → Chosen c (Gives true e (got j b)) (Gives false i (got j b)) → Chosen c (Gives (required_at t) e (got j (marked b t))) (Gives t i (got j (marked b t)))
bang_by true t i s e j true h = let k : e ≡ j = cc in ap (λ j. got j (required_at t)) k
bang_by true t i s e j false h = cc
bang_by false t i s e j true h = cc
bang_by false t i s e j false h = let k : i ≡ j = cc in ap (λ j. got j t) k

bang_fault : (c : Bool) (t : Typed) (i e : ℕ) (f : Fault) → Chosen c (Gives true e (fails f)) (Gives false i (fails f)) → Chosen c (Gives (required_at t) e (fails f)) (Gives t i (fails f))
bang_fault true t i e f h = cc
bang_fault false t i e f h = cc

no_type : (s : ℕ) (x : Lexical) → any_name s x ≡ none → is_mark open_bracket x ≡ false → begins_type x ≡ false
no_type s (a_mark m) h g = g
no_type s (a_name w) h g = cc
no_type s (a_number k ds) h g = refl
no_type s (a_string cs) h g = refl
no_type s the_end h g = refl

module _ (N : ℕ → Sight → Type 0) where
  pub bang_reads : (t : Typed) (i j : ℕ) (b : Bool) → ReadsBang N i (got j b) → ReadsMark N t i (got j (marked b t))
  bang_reads t i j b (sees s e x, n, h) = (sees s e x, n, bang_by (is_mark bang x) t i s e j b h)
  bang_reads t i j b (blind f, n, h) = cc

  pub bang_fails : (t : Typed) (i : ℕ) (f : Fault) → ReadsBang N i (fails f) → ReadsMark N t i (fails f)
  bang_fails t i f (sees s e x, n, h) = (sees s e x, n, bang_fault (is_mark bang x) t i e f h)
  bang_fails t i f (blind g, n, h) = let k : g ≡ f = cc in (blind g, n, ap (λ g. fails g) k)

  -- lists around what fails
  pub wrapped_fails : (k : ℕ) (f : Fault) → Wrapped N k (fails f) (fails f)
  wrapped_fails zero f = refl
  wrapped_fails (suc k) f = (fails f, refl, wrapped_fails k f)

  wrapped_more : (k : ℕ) (q o : Out Typed) → Wrapped N (k + 1) q o → (r : Out Typed) × Goes (ReadsEnd N) q r × Wrapped N k r o
  wrapped_more k q o w = let e : k + 1 ≡ suc k = omega arith in subst (λ n. Wrapped N n q o) e w

  -- what the type from `here` on comes to, in k lists, the whole at i comes to
  abbrev pub Inner : ℕ → ℕ → ℕ → Type 0
  Inner i k here = (q o : Out Typed) → ReadsType N (8 - k) here q → Wrapped N k q o → ReadsType N 8 i o

  pub inner_start : (i : ℕ) → Inner i 0 i
  inner_start i q o r w = subst (ReadsType N 8 i) w r

  pub inner_step : (i k here s e : ℕ) → Inner i k here → k < 8 → N here (sees s e (a_mark open_bracket)) → Inner i (k + 1) e
  inner_step i k here s e v h n q o r w =
      let u = wrapped_more k q o w in
      let d : 8 - (k + 1) ≡ (8 - k) - 1 = omega arith in
      v u.0 o (t_list n (omega arith) (subst (λ d. ReadsType N d e q) d r) u.1) u.2

  pub inner_deep : (i k here s e : ℕ) → Inner i k here → 8 ≤ k → N here (sees s e (a_mark open_bracket)) → ReadsType N 8 i (fails (TooDeep s))
  inner_deep i k here s e v h n = v (fails (TooDeep s)) (fails (TooDeep s)) (t_deep n (omega arith)) (wrapped_fails k (TooDeep s))

  pub inner_fails : (i k here : ℕ) (f : Fault) → Inner i k here → ReadsType N (8 - k) here (fails f) → ReadsType N 8 i (fails f)
  inner_fails i k here f v r = v (fails f) (fails f) r (wrapped_fails k f)

  -- what stands in the place of a type's beginning is no name and no `[`
  pub no_name : ((i : ℕ) (v w : Sight) → N i v → N i w → v ≡ w) → (d i : ℕ) (v : Sight) (f : Fault) → N i v → sees_mark open_bracket v ≡ false → Takes N any_name i (fails f) → ReadsType N d i (fails f)
  no_name one d i v f n h (sees s e x, m, g) =
      let k = refused_is s e (any_name s x) f g in
      let o = ap (sees_mark open_bracket) (one i (sees s e x) v m n) ∙ h in
      subst (λ f. ReadsType N d i (fails f)) k.0 (t_bad m (no_type s x k.1 o))
  no_name one d i v f n h (blind g, m, e) = let k : g ≡ f = cc in subst (λ f. ReadsType N d i (fails f)) k (t_blind m)

  -- what the type t that ends `here` comes to in k lists, the whole at i comes to
  abbrev pub Outer : ℕ → ℕ → ℕ → Typed → Type 0
  Outer i k here t = (o : Out Typed) → Wrapped N k (got here t) o → ReadsType N 8 i o

  pub outer_start : (i k e j : ℕ) (l : Label) (b : Bool) (bs : List Bool) (here : ℕ) → Inner i k here → Takes N any_name here (got e l) → ReadsBang N e (got j b) → Outer i k j (kept (b ∷ bs) l.name l.place 0)
  outer_start i k e j l b bs here v n m o w =
      let r = bang_reads (name_at l.name l.place) e j b m in
      v (got j (kept (b ∷ bs) l.name l.place 0)) o (t_named (name_seen N here e l n) (subst (λ t. ReadsMark N (name_at l.name l.place) e (got j t)) (kept_name b bs l.name l.place) r)) w

  pub name_bang_fails : (i k e : ℕ) (l : Label) (f : Fault) (here : ℕ) → Inner i k here → Takes N any_name here (got e l) → ReadsBang N e (fails f) → ReadsType N 8 i (fails f)
  name_bang_fails i k e l f here v n m = inner_fails i k here f v (t_named (name_seen N here e l n) (bang_fails (name_at l.name l.place) e f m))

  pub outer_step : (i k here e j s : ℕ) (t : Typed) (b : Bool) → Outer i (suc k) here t → Takes N (the_mark close_bracket) here (got e s) → ReadsBang N e (got j b) → Outer i k j (marked b (list_at t))
  outer_step i k here e j s t b v n m o w = v o (got j (marked b (list_at t)), (got e s, n, bang_reads (list_at t) e j b m), w)

  pub outer_fails : (i k here : ℕ) (t : Typed) (f : Fault) → Outer i (suc k) here t → Takes N (the_mark close_bracket) here (fails f) → ReadsType N 8 i (fails f)
  outer_fails i k here t f v n = v (fails f) (fails f, (fails f, n, refl), wrapped_fails k f)

  pub outer_bang_fails : (i k here e s : ℕ) (t : Typed) (f : Fault) → Outer i (suc k) here t → Takes N (the_mark close_bracket) here (got e s) → ReadsBang N e (fails f) → ReadsType N 8 i (fails f)
  outer_bang_fails i k here e s t f v n m = v (fails f) (fails f, (got e s, n, bang_fails (list_at t) e f m), wrapped_fails k f)

  pub outer_ends : (i here : ℕ) (t : Typed) → Outer i 0 here t → ReadsType N 8 i (got here t)
  outer_ends i here t v = v (got here t) refl

  -- the same by the levels
  opened_more : (i n k here : ℕ) (t : Typed) → k < n → Outer i (n - k) here t → Outer i (suc (n - (k + 1))) here t
  opened_more i n k here t h v = let e : n - k ≡ suc (n - (k + 1)) = omega arith in subst (λ d. Outer i d here t) e v

  pub level_closes : (i n k here e j s : ℕ) (marks : List Bool) (w : Name) (p : ℕ) (b : Bool) → k < n → k + 1 < length marks → Outer i (n - k) here (kept marks w p k) → Takes N (the_mark close_bracket) here (got e s) → ReadsBang N e (got j b) → Outer i (n - (k + 1)) j (kept (set marks (k + 1) b) w p (k + 1))
  level_closes i n k here e j s marks w p b h g v x m =
      let l : suc k ≡ k + 1 = omega arith in
      subst (λ a. Outer i (n - (k + 1)) j (kept (set marks a b) w p a)) l
      (subst (Outer i (n - (k + 1)) j) (kept_list marks w p k b (omega arith)) (outer_step i (n - (k + 1)) here e j s (kept marks w p k) b (opened_more i n k here (kept marks w p k) h v) x m))

  pub level_fails : (i n k here : ℕ) (t : Typed) (f : Fault) → k < n → Outer i (n - k) here t → Takes N (the_mark close_bracket) here (fails f) → ReadsType N 8 i (fails f)
  level_fails i n k here t f h v x = outer_fails i (n - (k + 1)) here t f (opened_more i n k here t h v) x

  pub level_bang_fails : (i n k here e s : ℕ) (t : Typed) (f : Fault) → k < n → Outer i (n - k) here t → Takes N (the_mark close_bracket) here (got e s) → ReadsBang N e (fails f) → ReadsType N 8 i (fails f)
  level_bang_fails i n k here e s t f h v x m = outer_bang_fails i (n - (k + 1)) here e s t f (opened_more i n k here t h v) x m
