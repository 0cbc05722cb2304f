-- Tables that grow by a node, by the pool, and by the end of a list or an object.
use Rattle.std.proofs.Common.{◌≡◌, ℕ, ◌+◌, ◌-◌, ◌<◌, ◌≢◌, List, [], ◌∷◌, ◌++◌, length, set, sym, refl, ap, ◌∙◌, subst, append-nil, arith, length-append, length-set, get_or-set_other, get_or-set_same, lt-ltb}
use lib.Seq.{get_or_at}
use Rattle.std.proofs.lemmas.List.{get_or_append_left}
use Rattle.std.proofs.lemmas.Bool.{cond-true}
use Rattle.model.specs.Values.{Raw, place_of}
use Rattle.names.specs.Parts.{MayFit, bytes_if_any}
use Rattle.source.specs.declared.nodes.Node.{Node}
use Rattle.source.specs.Contents.{text_in}
use Rattle.source.specs.Heads.{kind_of, flag_of, text_of, negative_of, exponent_of}
use Rattle.source.specs.Nodes.{node_at, blank, sized, closed}
use Rattle.source.specs.Table.{Table, Says, Head, Keeps}
use Rattle.source.proofs.Keeping.{says_kept}

-- U is T with a node more
pub record Pushed (T U : Table) (n : Node) : Type 0 where
  pub text : U.text ≡ T.text
  pub pool : U.pool ≡ T.pool
  pub nodes : U.nodes ≡ T.nodes ++ n ∷ []

-- U is T with a longer pool
pub record Pooled (T U : Table) : Type 0 where
  pub text : U.text ≡ T.text
  pub nodes : U.nodes ≡ T.nodes
  pub more : List ℕ
  pub pool : U.pool ≡ T.pool ++ more

-- U is T with the node at `at` closed
pub record Closed (T U : Table) (at : ℕ) : Type 0 where
  pub text : U.text ≡ T.text
  pub pool : U.pool ≡ T.pool
  pub nodes : U.nodes ≡ closed T.nodes at

pub pooled_keeps : {T U : Table} → Pooled T U → Keeps 0 T U
pooled_keeps {T} {U} p = record {
  text = p.text;
  more = p.more;
  pool = p.pool;
  grows = omega (arith, ap length p.nodes);
  nodes = λ i k l. ap (λ ns. node_at ns i) p.nodes;
}

pub pushed_long : {T U : Table} {n : Node} → Pushed T U n → length U.nodes ≡ length T.nodes + 1
pushed_long {T} {U} {n} p = ap length p.nodes ∙ length-append T.nodes (n ∷ [])

pub pushed_keeps : {T U : Table} {n : Node} → Pushed T U n → Keeps 0 T U
pushed_keeps {T} {U} {n} p = record {
  text = p.text;
  more = [];
  pool = p.pool ∙ sym (append-nil T.pool);
  grows = omega (arith, pushed_long p);
  nodes = λ i k l. ap (λ ns. node_at ns i) p.nodes ∙ get_or_append_left T.nodes (n ∷ []) blank i l;
}

pub pushed_node : {T U : Table} {n : Node} → Pushed T U n → node_at U.nodes (length T.nodes) ≡ n
pushed_node {T} {U} {n} p = ap (λ ns. node_at ns (length T.nodes)) p.nodes ∙ get_or_at T.nodes n [] blank (length T.nodes) refl

module _ {T U : Table} {at : ℕ} (c : Closed T U at) (h : at < length T.nodes) where
  closed_is : U.nodes ≡ set T.nodes at (sized (node_at T.nodes at) (length T.nodes - at))
  closed_is = c.nodes ∙ cond-true _ _ _ (lt-ltb at (length T.nodes) h)

  pub closed_long : length U.nodes ≡ length T.nodes
  closed_long = ap length closed_is ∙ length-set T.nodes at _

  pub closed_here : node_at U.nodes at ≡ sized (node_at T.nodes at) (length T.nodes - at)
  closed_here = ap (λ ns. node_at ns at) closed_is ∙ get_or-set_same T.nodes at _ blank h

  pub closed_other : (i : ℕ) → i ≢ at → node_at U.nodes i ≡ node_at T.nodes i
  closed_other i n = ap (λ ns. node_at ns i) closed_is ∙ get_or-set_other T.nodes at i _ blank n

  pub closed_keeps : Keeps (at + 1) T U
  closed_keeps = record {
    text = c.text;
    more = [];
    pool = c.pool ∙ sym (append-nil T.pool);
    grows = omega (arith, closed_long);
    nodes = λ i k l. closed_other i (λ e. omega arith);
  }

-- T grows to U, whose node at the end of T is then closed
pub keeps_closed : {T U V : Table} → Keeps 0 T U → length T.nodes < length U.nodes → Closed U V (length T.nodes) → Keeps 0 T V
keeps_closed {T} {U} {V} a h c = record {
  text = c.text ∙ a.text;
  more = a.more;
  pool = c.pool ∙ a.pool;
  grows = omega (arith, a.grows, closed_long c h);
  nodes = λ i k l. closed_other c h i (λ e. omega arith) ∙ a.nodes i k l;
}

-- a node says the same in another size, and of any value that says what the first says
pub says_sized : {T : Table} {n : Node} {t : Raw} (u : Raw) (k : ℕ) → Says T n t → kind_of t ≡ kind_of u → place_of t ≡ place_of u → flag_of t ≡ flag_of u → negative_of t ≡ negative_of u → exponent_of t ≡ exponent_of u → text_of t ≡ text_of u → Says T (sized n k) u
says_sized u k s a b c d e f = record {
  kind = s.kind ∙ a;
  place = s.place ∙ b;
  flag = s.flag ∙ c;
  negative = s.negative ∙ d;
  exponent = s.exponent ∙ e;
  fits = s.fits;
  text = s.text ∙ f;
}

-- the table of a text and a pool, with nodes
pub says_bare : {T U : Table} {n : Node} {t : Raw} → T.text ≡ U.text → T.pool ≡ U.pool → Says T n t → Says U n t
says_bare {T} {U} {n} {t} a b s = record {
  kind = s.kind;
  place = s.place;
  flag = s.flag;
  negative = s.negative;
  exponent = s.exponent;
  fits = subst (λ x. MayFit x U.pool (text_in n.content)) a (subst (λ x. MayFit T.text x (text_in n.content)) b s.fits);
  text = sym (ap (λ x. bytes_if_any x U.pool (text_in n.content)) a) ∙ sym (ap (λ x. bytes_if_any T.text x (text_in n.content)) b) ∙ s.text;
}

-- a value without items or members stands at its node
pub leaf_head : {T U : Table} {n : Node} {t : Raw} → Pushed T U n → Says T n t → n.size ≡ 1 → Head U (length T.nodes) t
leaf_head {T} {U} {n} {t} p s z =
    let e = pushed_node p in
    let q = ap (λ (k : Node). k.size) e ∙ z in
    record {
      says = subst (λ (k : Node). Says U k t) (sym e) (says_kept (pushed_keeps p) s);
      some = omega (arith, q);
      inside = omega (arith, q, pushed_long p);
    }
