-- A value holds a variable exactly where one of its nodes is a variable's.
use Rattle.std.proofs.Common.{◌≡◌, ℕ, suc, ◌+◌, ◌-◌, ◌<◌, ◌≤◌, Bool, true, false, ◌||◌, List, [], ◌∷◌, length, get_or, take, drop, min, sym, refl, ap, ◌∙◌, subst, ⊎_elim, arith, length-drop, MatchBool}
use Rattle.std.specs.List.{list_any, slice_range}
use Rattle.std.proofs.lemmas.List.{get_or-take, get_or-drop, length-take, take_min}
use Rattle.std.proofs.lemmas.List.Folds.{list_any_at}
use Rattle.std.proofs.lemmas.Bool.{cases_lt, false≢true}
use Rattle.model.specs.Values.{Name, Raw, Raws, Mems, null, scalar, variable, list, object, nil, cons, end, mem}
use Rattle.model.specs.Checking.{VariableFree, VariableIn, v_itself, v_list, v_object, VariableInAll, v_item, v_later_item, VariableInMems, v_member, v_later_member}
use Rattle.source.specs.declared.raw.Kind.TheVariants.{Variable}
use Rattle.source.specs.declared.nodes.Content.{Content}
use Rattle.source.specs.declared.nodes.Content.TheVariants.{Null, Boolean, Whole, Decimal, String, Enum, Variable as VariableContent, List as ListContent, Object}
use Rattle.source.specs.declared.nodes.Node.{Node}
use Rattle.source.specs.Contents.{kind_in, variable_in}
use Rattle.source.specs.Nodes.{blank, node_at}
use Rattle.source.specs.Table.{Table, past_of, Stands, StandsAll, StandsMems}
use Rattle.source.specs.Variables.{HoldsVariable, is_variable}
use Rattle.source.specs.OneTree.{scalar_apart, head_of, forward_all, forward_mems}

-- from i on, before j, stands a variable's node
pub record Between (T : Table) (i j : ℕ) : Type 0 where
  pub at : ℕ
  pub from : i ≤ at
  pub before : at < j
  pub kind : kind_in (node_at T.nodes at).content ≡ Variable

mutual
  pub node_found : (T : Table) (at i : ℕ) (t : Raw) → Stands T at t → at ≤ i → i < past_of T.nodes at → kind_in (node_at T.nodes i).content ≡ Variable → HoldsVariable t
  node_found T at i (null p) h l m e = let q : at ≡ i = omega (arith, h.1) in absurd (let z = sym h.0.says.kind ∙ ap (λ k. kind_in (node_at T.nodes k).content) q ∙ e in cc)
  node_found T at i (scalar p s) h l m e = let q : at ≡ i = omega (arith, h.1) in absurd ((scalar_apart s).1 (sym h.0.says.kind ∙ ap (λ k. kind_in (node_at T.nodes k).content) q ∙ e))
  node_found T at i (variable p n) h l m e = (p, n, v_itself)
  node_found T at i (list p xs) h l m e = ⊎_elim
      (λ (k : at < i). let w = all_found T (at + 1) (past_of T.nodes at) i xs h.1 (omega arith) m e in (w.0, w.1, v_list w.2))
      (λ k. let q : at ≡ i = omega arith in absurd (let z = sym h.0.says.kind ∙ ap (λ k. kind_in (node_at T.nodes k).content) q ∙ e in cc))
      (cases_lt at i)
  node_found T at i (object p ms) h l m e = ⊎_elim
      (λ (k : at < i). let w = mems_found T (at + 1) (past_of T.nodes at) i ms h.1 (omega arith) m e in (w.0, w.1, v_object w.2))
      (λ k. let q : at ≡ i = omega arith in absurd (let z = sym h.0.says.kind ∙ ap (λ k. kind_in (node_at T.nodes k).content) q ∙ e in cc))
      (cases_lt at i)

  all_found : (T : Table) (from to i : ℕ) (xs : Raws) → StandsAll T from to xs → from ≤ i → i < to → kind_in (node_at T.nodes i).content ≡ Variable → (p : ℕ) × (n : Name) × VariableInAll p n xs
  all_found T from to i nil h l m e = absurd (omega (arith, h))
  all_found T from to i (cons x xs) h l m e = ⊎_elim
      (λ k. let w = node_found T from i x h.0 l k e in (w.0, w.1, v_item w.2))
      (λ k. let w = all_found T (past_of T.nodes from) to i xs h.1 k m e in (w.0, w.1, v_later_item w.2))
      (cases_lt i (past_of T.nodes from))

  mems_found : (T : Table) (from to i : ℕ) (ms : Mems) → StandsMems T from to ms → from ≤ i → i < to → kind_in (node_at T.nodes i).content ≡ Variable → (p : ℕ) × (n : Name) × VariableInMems p n ms
  mems_found T from to i end h l m e = absurd (omega (arith, h))
  mems_found T from to i (mem k x ms) h l m e = ⊎_elim
      (λ k. let w = node_found T from i x h.1 l k e in (w.0, w.1, v_member w.2))
      (λ k. let w = mems_found T (past_of T.nodes from) to i ms h.2 k m e in (w.0, w.1, v_later_member w.2))
      (cases_lt i (past_of T.nodes from))

mutual
  pub found_node : (T : Table) (at : ℕ) {p : ℕ} {n : Name} {t : Raw} → VariableIn p n t → Stands T at t → Between T at (past_of T.nodes at)
  found_node T at v_itself h = record { at = at; from = omega arith; before = h.0.some; kind = h.0.says.kind }
  found_node T at (v_list w) h = let b = found_all T (at + 1) (past_of T.nodes at) w h.1 in record { at = b.at; from = omega (arith, b.from); before = b.before; kind = b.kind }
  found_node T at (v_object w) h = let b = found_mems T (at + 1) (past_of T.nodes at) w h.1 in record { at = b.at; from = omega (arith, b.from); before = b.before; kind = b.kind }

  found_all : (T : Table) (i j : ℕ) {p : ℕ} {n : Name} {xs : Raws} → VariableInAll p n xs → StandsAll T i j xs → Between T i j
  found_all T i j (v_item {xs = xs} w) h = let b = found_node T i w h.0 in record { at = b.at; from = b.from; before = omega (arith, b.before, forward_all T (past_of T.nodes i) j xs h.1); kind = b.kind }
  found_all T i j (v_later_item {x = x} w) h = let b = found_all T (past_of T.nodes i) j w h.1 in record { at = b.at; from = omega (arith, b.from, (head_of T i x h.0).some); before = b.before; kind = b.kind }

  found_mems : (T : Table) (i j : ℕ) {p : ℕ} {n : Name} {ms : Mems} → VariableInMems p n ms → StandsMems T i j ms → Between T i j
  found_mems T i j (v_member {ms = ms} w) h = let b = found_node T i w h.1 in record { at = b.at; from = b.from; before = omega (arith, b.before, forward_mems T (past_of T.nodes i) j ms h.2); kind = b.kind }
  found_mems T i j (v_later_member {x = x} w) h = let b = found_mems T (past_of T.nodes i) j w h.2 in record { at = b.at; from = omega (arith, b.from, (head_of T i x h.1).some); before = b.before; kind = b.kind }

-- a variable's node by its test
variable_kind : (c : Content) → variable_in c ≡ true → kind_in c ≡ Variable
variable_kind (VariableContent p) e = refl
variable_kind _ e = absurd (false≢true e)

kind_variable : (c : Content) → kind_in c ≡ Variable → variable_in c ≡ true
kind_variable Null e = absurd (cc)
kind_variable (Boolean b) e = absurd (cc)
kind_variable (Whole p) e = absurd (cc)
kind_variable (Decimal s p) e = absurd (cc)
kind_variable (String p) e = absurd (cc)
kind_variable (Enum p) e = absurd (cc)
kind_variable (VariableContent p) e = refl
kind_variable ListContent e = absurd (cc)
kind_variable Object e = absurd (cc)

-- one of a list that passes
record Passes {X : Type 0} (p : X → Bool) (xs : List X) (d : X) : Type 0 where
  at : ℕ
  inside : at < length xs
  passes : p (get_or xs at d) ≡ true

passes_on : {X : Type 0} (p : X → Bool) (x : X) (xs : List X) (d : X) (b : Bool) → p x ≡ b → (list_any p xs ≡ true → Passes p xs d) → (b || list_any p xs) ≡ true → Passes p (x ∷ xs) d
passes_on p x xs d true e f h = record { at = 0; inside = omega arith; passes = e }
passes_on p x xs d false e f h = let r = f h in record { at = suc r.at; inside = omega (arith, r.inside); passes = r.passes }

passes : {X : Type 0} (p : X → Bool) (xs : List X) (d : X) → list_any p xs ≡ true → Passes p xs d
passes p [] d h = absurd (false≢true h)
passes p (x ∷ xs) d h = passes_on p x xs d (p x) refl (passes p xs d) h

range_at : (nodes : List Node) (at j i : ℕ) → i < j - at → get_or (slice_range nodes at j) i blank ≡ node_at nodes (at + i)
range_at nodes at j i l = get_or-take (j - at) (drop at nodes) i blank l ∙ get_or-drop at nodes i blank

range_length : (nodes : List Node) (at j : ℕ) → j ≤ length nodes → length (slice_range nodes at j) ≡ j - at
range_length nodes at j l = omega (arith, length-take (j - at) (drop at nodes), length-drop at nodes)

-- what a test of the nodes finds
pub any_told : (T : Table) (at j : ℕ) (t : Raw) (r : Bool) → Stands T at t → j ≡ past_of T.nodes at → r ≡ list_any is_variable (slice_range T.nodes at j) → MatchBool r (HoldsVariable t) (VariableFree t)
any_told T at j t true h e f =
    let k = head_of T at t h in
    let p = passes is_variable (slice_range T.nodes at j) blank (sym f) in
    let l = range_length T.nodes at j (omega (arith, k.inside)) in
    let m : p.at < j - at = omega (arith, p.inside) in
    node_found T at (at + p.at) t h (omega arith) (omega arith) (variable_kind _ (subst (λ n. is_variable n ≡ true) (range_at T.nodes at j p.at m) p.passes))
any_told T at j t false h e f = λ p n w.
    let k = head_of T at t h in
    let b = found_node T at w h in
    let l = range_length T.nodes at j (omega (arith, k.inside)) in
    let q : at + (b.at - at) ≡ b.at = omega (arith, b.from) in
    let m : b.at - at < j - at = omega (arith, b.from, b.before) in
    let s : is_variable (get_or (slice_range T.nodes at j) (b.at - at) blank) ≡ true = rw (range_at T.nodes at j (b.at - at) m, q) (kind_variable _ b.kind) in
    false≢true (f ∙ list_any_at is_variable (slice_range T.nodes at j) (b.at - at) blank (omega arith) s)

-- a node and those below it, as far as the table goes
pub below_cut : (nodes : List Node) (at size past : ℕ) → past - at ≡ min size (length nodes - at) → slice_range nodes at past ≡ take size (drop at nodes)
below_cut nodes at size past e = ap (λ n. take n (drop at nodes)) (e ∙ ap (min size) (sym (length-drop at nodes))) ∙ take_min size (drop at nodes)
