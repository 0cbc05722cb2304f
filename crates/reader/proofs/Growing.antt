-- What one turn of the readers keeps, and what their ends come to.
use Rattle.std.proofs.Common.{◌≡◌, ℕ, ◌+◌, ◌-◌, ◌<◌, ◌≤◌, false, List, [], ◌∷◌, ◌++◌, length, take, Some, Ok, Err, Option, Result, sym, refl, ap, ◌∙◌, subst, arith}
use Rattle.std.proofs.lemmas.List.{take_all}
use Rattle.model.specs.Values.{Name, Raw, Raws, Mems, list, object, nil, cons, end, mem}
use Rattle.text.specs.declared.fault.Fault.{Fault}
use Rattle.text.specs.TokenGrammar.{Lexical, a_mark, open_bracket, close_bracket, open_brace, close_brace}
use Rattle.names.specs.declared.names.Link.{Link}
use Rattle.names.specs.declared.part.Part.{Part}
use Rattle.names.specs.Parts.{PartFits, bytes_of}
use Rattle.source.specs.declared.nodes.Node.{Node}
use Rattle.source.specs.Nodes.{node_at, sized}
use Rattle.source.specs.Table.{Table, Says, Named, Stands, StandsAll, StandsMems, Keeps, past_of}
use Rattle.source.proofs.Keeping.{keeps_all, keeps_on, says_kept, stands_kept, all_kept, mems_kept, past_kept, named_kept, fits_kept, bytes_kept}
use Rattle.source.specs.OneTree.{head_of}
use Rattle.reader.specs.Manner.{Manner}
use Rattle.reader.specs.Grammar.{Leaf, l_null}
use Rattle.reader.specs.Tokens.{Sight, sees, Sights}
use Rattle.reader.specs.Reading.{got, fails, turn, done, again, sees_mark, NameAt, Reads, ReadsList, ReadsObject, r_list, r_object, rl_nil, rl_items, ReadsItems, ri_last, ri_more, ro_end, ro_members, ReadsMembers, rm_last, rm_more}
use Rattle.reader.specs.Told.{Added, Told, Opened, ItemsAdded, MembersAdded, NameRead}
use Rattle.reader.proofs.Tables.{Pushed, Pooled, Closed, pooled_keeps, pushed_keeps, pushed_long, pushed_node, closed_keeps, closed_here, closed_long, keeps_closed, says_sized, leaf_head}

-- what is read at a place, with d levels left, comes to a fault: a value, a list or an object after its opening mark, a name
abbrev pub ValueFails : Manner → List ℕ → (d i : ℕ) → Fault → Type 0
ValueFails m text d i g = Reads (Sights m.language text) m.language m.distinct d i (fails g)

abbrev pub ListFails : Manner → List ℕ → (d i : ℕ) → Fault → Type 0
ListFails m text d i g = ReadsList (Sights m.language text) m.language m.distinct d i (fails g)

abbrev pub ObjectFails : Manner → List ℕ → (d i : ℕ) → Fault → Type 0
ObjectFails m text d i g = ReadsObject (Sights m.language text) m.language m.distinct d i (fails g)

abbrev pub NameFails : Manner → List ℕ → List Name → ℕ → Fault → Type 0
NameFails m text ns i g = NameAt (Sights m.language text) m.language m.distinct ns i (fails g)

-- the items from i to here are read, and their nodes stand after those of T;
-- what the items from here on come to, the items from i on do
pub record SofarItems (m : Manner) (text : List ℕ) (d i here : ℕ) (T U : Table) : Type 0 where
  pub keeps : Keeps 0 T U
  pub forward : i ≤ here
  pub within : here ≤ length text
  pub reads : (j : ℕ) (us : Raws) → ReadsItems (Sights m.language text) m.language m.distinct d here (got j us)
      → (ts : Raws) × ReadsItems (Sights m.language text) m.language m.distinct d i (got j ts) × ((V : Table) → Keeps 0 U V → (to : ℕ) → StandsAll V (length U.nodes) to us → StandsAll V (length T.nodes) to ts)
  pub faults : (f : Fault) → ReadsItems (Sights m.language text) m.language m.distinct d here (fails f) → ReadsItems (Sights m.language text) m.language m.distinct d i (fails f)

-- a value that was added stands first among those from its node on
stands_first : {m : Manner} {text : List ℕ} {d i j : ℕ} {name : Option Part} {T U : Table} {before after : List Link} (a : Added m text d i j name T U before after) (V : Table) → Keeps 0 U V → (to : ℕ) (us : Raws) → StandsAll V (length U.nodes) to us → StandsAll V (length T.nodes) to (cons a.tree us)
stands_first {T = T} {U = U} a V k to us s =
    let h = head_of U (length T.nodes) a.tree a.stands in
    let p = past_kept k (length T.nodes) (omega arith) (omega (arith, h.some, h.inside)) ∙ a.past in (
      stands_kept k (length T.nodes) a.tree (omega arith) a.stands,
      subst (λ n. StandsAll V n to us) (sym p) s,
    )

pub items_step : {m : Manner} {text : List ℕ} {d i here j k : ℕ} {name : Option Part} {T U W : Table} {before after : List Link} (v : Sight) → SofarItems m text d i here T U → Added m text d here j name U W before after → Sights m.language text j v → turn m.language close_bracket j v ≡ again k → j ≤ k → k ≤ length text → SofarItems m text d i k T W
items_step {U = U} {W} v s a n e h l = record {
  keeps = keeps_on s.keeps a.keeps;
  forward = omega (arith, s.forward, a.forward);
  within = l;
  reads = λ j us r.
      let whole = s.reads j (cons a.tree us) (ri_more {v = v} a.reads n e r refl) in
      (whole.0, whole.1, λ V k to x. whole.2 V (keeps_on a.keeps k) to (stands_first a V k to us x));
  faults = λ f r. s.faults f (ri_more {v = v} a.reads n e r refl);
}

-- the last item
pub items_done : {m : Manner} {text : List ℕ} {d i here j k : ℕ} {name : Option Part} {T U W : Table} {before middle after : List Link} (v w : Sight) → Sights m.language text i w → sees_mark close_bracket w ≡ false
    → SofarItems m text d i here T U → Added m text d here j name U W middle after → middle ≡ before → Sights m.language text j v → turn m.language close_bracket j v ≡ done k → j < k → k ≤ length text → ItemsAdded m text d i k T W before after
items_done {T = T} {U} {W} v w x y s a b n e h l =
    let whole = s.reads _ (cons a.tree nil) (ri_last {v = v} a.reads n e) in
    record {
      trees = whole.0;
      reads = rl_items {v = w} x y whole.1;
      keeps = keeps_on s.keeps a.keeps;
      stand = whole.2 W a.keeps (length W.nodes) (stands_first a W (keeps_all W) (length W.nodes) nil refl);
      links = a.links ∙ b;
      forward = omega (arith, s.forward, a.forward);
      within = l;
    }

-- an end right after the opening mark
pub items_none : {m : Manner} {text : List ℕ} {d i s j : ℕ} (T : Table) (links : List Link) → Sights m.language text i (sees s j (a_mark close_bracket)) → i < j → j ≤ length text → ItemsAdded m text d i j T T links links
items_none T links n h l = record { trees = nil; reads = rl_nil n; keeps = keeps_all T; stand = refl; links = refl; forward = h; within = l }

-- the list is closed after its items
pub list_closed : {m : Manner} {text : List ℕ} {d i at j : ℕ} {name : Option Part} {n : Node} {T U V W : Table} {before after : List Link} → 0 < d → Opened m text i at (a_mark open_bracket) (list n.place nil) T name n → Pushed T U n → ItemsAdded m text (d - 1) at j U V before after → Closed V W (length T.nodes) → Added m text d i j name T W before after
list_closed {n = n} {T} {U} {V} {W} room o p a c =
    let g = pushed_long p in
    let big : length T.nodes < length V.nodes = omega (arith, g, a.keeps.grows) in
    let tv = keeps_on (pushed_keeps p) a.keeps in
    let node : node_at V.nodes (length T.nodes) ≡ n = a.keeps.nodes (length T.nodes) (omega arith) (omega (arith, g)) ∙ pushed_node p in
    let at-w = closed_here c big ∙ ap (λ (k : Node). sized k (length V.nodes - length T.nodes)) node in
    let size = ap (λ (k : Node). k.size) at-w in
    let past : past_of W.nodes (length T.nodes) ≡ length V.nodes = omega (arith, size) in
    let says = says_sized (list o.start a.trees) (length V.nodes - length T.nodes) (says_kept (closed_keeps c big) (says_kept tv o.says)) refl o.place refl refl refl refl in
    record {
      tree = list o.start a.trees;
      reads = r_list o.seen room a.reads refl;
      keeps = keeps_closed tv big c;
      stands = (
        record { says = subst (λ (k : Node). Says W k (list o.start a.trees)) (sym at-w) says; some = omega (arith, past); inside = omega (arith, past, closed_long c big) },
        subst (λ k. StandsAll W (length T.nodes + 1) k a.trees) (sym past) (all_kept (closed_keeps c big) _ _ a.trees (omega arith) (subst (λ k. StandsAll V k (length V.nodes) a.trees) g a.stand)),
      );
      past = past ∙ sym (closed_long c big);
      named = ap (λ (k : Node). k.name) at-w ∙ o.named;
      links = a.links;
      forward = omega (arith, o.forward, a.forward);
      within = a.within;
    }

-- the members from i to here are read, under the names ns, and their nodes stand after those of T
pub record SofarMembers (m : Manner) (text : List ℕ) (d i here : ℕ) (ns : List Name) (T U : Table) : Type 0 where
  pub keeps : Keeps 0 T U
  pub forward : i ≤ here
  pub within : here ≤ length text
  pub reads : (j : ℕ) (us : Mems) → ReadsMembers (Sights m.language text) m.language m.distinct d ns here (got j us)
      → (ts : Mems) × ReadsMembers (Sights m.language text) m.language m.distinct d [] i (got j ts) × ((V : Table) → Keeps 0 U V → (to : ℕ) → StandsMems V (length U.nodes) to us → StandsMems V (length T.nodes) to ts)
  pub faults : (f : Fault) → ReadsMembers (Sights m.language text) m.language m.distinct d ns here (fails f) → ReadsMembers (Sights m.language text) m.language m.distinct d [] i (fails f)

pub members_start : (m : Manner) (text : List ℕ) (d i : ℕ) (T : Table) → i ≤ length text → SofarMembers m text d i i [] T T
members_start m text d i T h = record {
  keeps = keeps_all T;
  forward = omega arith;
  within = h;
  reads = λ j us r. (us, r, λ V k to s. s);
  faults = λ f r. r;
}

-- a member that was read: its name, then its value
pub record Member (m : Manner) (text : List ℕ) (d i j : ℕ) (ns : List Name) (n : Name) (T W : Table) : Type 0 where
  pub onward : ℕ
  pub name : NameAt (Sights m.language text) m.language m.distinct ns i (got onward n)
  pub tree : Raw
  pub reads : Reads (Sights m.language text) m.language m.distinct d onward (got j tree)
  pub keeps : Keeps 0 T W
  pub named : Named W (length T.nodes) n
  pub stands : Stands W (length T.nodes) tree
  pub past : past_of W.nodes (length T.nodes) ≡ length W.nodes
  pub forward : i < j

pub member_read : {m : Manner} {text : List ℕ} {d i c j base : ℕ} {ns : List Name} {p : Part} {T U W : Table} {before middle links after : List Link} (r : NameRead m text i c ns base T.pool U.pool before middle p) → T.text ≡ text → Pooled T U → Added m text d c j (Some p) U W links after → Member m text d i j ns r.name T W
member_read {text = text} {c = c} {p = p} {T} {U} {W} r t g a =
    let q = pooled_keeps g in
    let long = ap length g.nodes in
    let e : node_at W.nodes (length T.nodes) ≡ node_at W.nodes (length U.nodes) = ap (node_at W.nodes) (sym long) in
    let f : (node_at W.nodes (length T.nodes)).name ≡ Some p = ap (λ (k : Node). k.name) e ∙ a.named in
    let ut : U.text ≡ text = g.text ∙ t in
    record {
      onward = c;
      name = r.reads;
      tree = a.tree;
      reads = a.reads;
      keeps = keeps_on q a.keeps;
      named = record {
        part = p;
        some = f;
        fits = fits_kept a.keeps p (subst (λ x. PartFits x U.pool p) (sym ut) r.part.fits);
        is = bytes_kept a.keeps p (subst (λ x. PartFits x U.pool p) (sym ut) r.part.fits) ∙ ap (λ x. bytes_of x U.pool p) ut ∙ r.part.is;
      };
      stands = subst (λ k. Stands W k a.tree) long a.stands;
      past = ap (past_of W.nodes) (sym long) ∙ a.past;
      forward = omega (arith, r.forward, a.forward);
    }

stands_member : {m : Manner} {text : List ℕ} {d i j : ℕ} {ns : List Name} {n : Name} {T W : Table} (a : Member m text d i j ns n T W) (V : Table) → Keeps 0 W V → (to : ℕ) (us : Mems) → StandsMems V (length W.nodes) to us → StandsMems V (length T.nodes) to (mem n a.tree us)
stands_member {n = n} {T} {W} a V k to us s =
    let h = head_of W (length T.nodes) a.tree a.stands in
    let l : length T.nodes < length W.nodes = omega (arith, h.some, h.inside) in
    let p = past_kept k (length T.nodes) (omega arith) l ∙ a.past in (
      named_kept k (length T.nodes) n (omega arith) l a.named,
      stands_kept k (length T.nodes) a.tree (omega arith) a.stands,
      subst (λ x. StandsMems V x to us) (sym p) s,
    )

pub members_step : {m : Manner} {text : List ℕ} {d i here j k : ℕ} {ns : List Name} {n : Name} {T U W : Table} (v : Sight) → SofarMembers m text d i here ns T U → Member m text d here j ns n U W → Sights m.language text j v → turn m.language close_brace j v ≡ again k → j ≤ k → k ≤ length text → SofarMembers m text d i k (ns ++ n ∷ []) T W
members_step v s a x e h l = record {
  keeps = keeps_on s.keeps a.keeps;
  forward = omega (arith, s.forward, a.forward);
  within = l;
  reads = λ j us r.
      let whole = s.reads j (mem _ a.tree us) (rm_more {v = v} a.name a.reads x e r refl) in
      (whole.0, whole.1, λ V k to y. whole.2 V (keeps_on a.keeps k) to (stands_member a V k to us y));
  faults = λ f r. s.faults f (rm_more {v = v} a.name a.reads x e r refl);
}

pub members_done : {m : Manner} {text : List ℕ} {d i here j k base : ℕ} {ns : List Name} {n : Name} {T U W : Table} {before after : List Link} (v w : Sight) → Sights m.language text i w → sees_mark close_brace w ≡ false
    → SofarMembers m text d i here ns T U → Member m text d here j ns n U W → take base after ≡ take base before → Sights m.language text j v → turn m.language close_brace j v ≡ done k → j < k → k ≤ length text → MembersAdded m text d i k T W base before after
members_done {W = W} v w x y s a b z e h l =
    let whole = s.reads _ (mem _ a.tree end) (rm_last {v = v} a.name a.reads z e) in
    record {
      trees = whole.0;
      reads = ro_members {v = w} x y whole.1;
      keeps = keeps_on s.keeps a.keeps;
      stand = whole.2 W a.keeps (length W.nodes) (stands_member a W (keeps_all W) (length W.nodes) end refl);
      below = b;
      forward = omega (arith, s.forward, a.forward);
      within = l;
    }

pub members_none : {m : Manner} {text : List ℕ} {d i s j base : ℕ} (T : Table) (links : List Link) → Sights m.language text i (sees s j (a_mark close_brace)) → i < j → j ≤ length text → MembersAdded m text d i j T T base links links
members_none T links n h l = record { trees = end; reads = ro_end n; keeps = keeps_all T; stand = refl; below = refl; forward = h; within = l }

-- the object is closed after its members
pub object_closed : {m : Manner} {text : List ℕ} {d i at j base : ℕ} {name : Option Part} {n : Node} {T U V W : Table} {before after last : List Link} → 0 < d → Opened m text i at (a_mark open_brace) (object n.place end) T name n → Pushed T U n → MembersAdded m text (d - 1) at j U V base before after → Closed V W (length T.nodes) → base ≡ length before → last ≡ take base after → Added m text d i j name T W before last
object_closed {base = base} {n = n} {T} {U} {V} {W} {before} {after} {last} room o p a c b q =
    let g = pushed_long p in
    let big : length T.nodes < length V.nodes = omega (arith, g, a.keeps.grows) in
    let tv = keeps_on (pushed_keeps p) a.keeps in
    let node : node_at V.nodes (length T.nodes) ≡ n = a.keeps.nodes (length T.nodes) (omega arith) (omega (arith, g)) ∙ pushed_node p in
    let at-w = closed_here c big ∙ ap (λ (k : Node). sized k (length V.nodes - length T.nodes)) node in
    let size = ap (λ (k : Node). k.size) at-w in
    let past : past_of W.nodes (length T.nodes) ≡ length V.nodes = omega (arith, size) in
    let says = says_sized (object o.start a.trees) (length V.nodes - length T.nodes) (says_kept (closed_keeps c big) (says_kept tv o.says)) refl o.place refl refl refl refl in
    record {
      tree = object o.start a.trees;
      reads = r_object o.seen room a.reads refl;
      keeps = keeps_closed tv big c;
      stands = (
        record { says = subst (λ (k : Node). Says W k (object o.start a.trees)) (sym at-w) says; some = omega (arith, past); inside = omega (arith, past, closed_long c big) },
        subst (λ k. StandsMems W (length T.nodes + 1) k a.trees) (sym past) (mems_kept (closed_keeps c big) _ _ a.trees (omega arith) (subst (λ k. StandsMems V k (length V.nodes) a.trees) g a.stand)),
      );
      past = past ∙ sym (closed_long c big);
      named = ap (λ (k : Node). k.name) at-w ∙ o.named;
      links = q ∙ a.below ∙ take_all base before (omega (arith, b));
      forward = omega (arith, o.forward, a.forward);
      within = a.within;
    }

-- from a table with a shorter pool
pub told_pooled : (m : Manner) (text : List ℕ) (d i : ℕ) (name : Option Part) (T U V : Table) (before after : List Link) (r : Result ℕ Fault) → Pooled T U → Told m text d i name U V before after r → Told m text d i name T V before after r
told_pooled m text d i name T U V before after (Ok j) g a =
    let long = ap length g.nodes in
    record {
      tree = a.tree;
      reads = a.reads;
      keeps = keeps_on (pooled_keeps g) a.keeps;
      stands = subst (λ k. Stands V k a.tree) long a.stands;
      past = ap (past_of V.nodes) (sym long) ∙ a.past;
      named = ap (λ k. (node_at V.nodes k).name) (sym long) ∙ a.named;
      links = a.links;
      forward = a.forward;
      within = a.within;
    }
told_pooled m text d i name T U V before after (Err f) g a = a

-- the same links under other names
pub relinked : {m : Manner} {text : List ℕ} {d i j : ℕ} {name : Option Part} {T U : Table} {before after before' after' : List Link} → Added m text d i j name T U before after → before ≡ before' → after ≡ after' → Added m text d i j name T U before' after'
relinked a e f = record {
  tree = a.tree;
  reads = a.reads;
  keeps = a.keeps;
  stands = a.stands;
  past = a.past;
  named = a.named;
  links = sym f ∙ a.links ∙ e;
  forward = a.forward;
  within = a.within;
}

-- a value that is one node
pub leaf_added : {m : Manner} {text : List ℕ} {d i j : ℕ} {name : Option Part} {T U : Table} {n : Node} (t : Raw) (before after : List Link) → Reads (Sights m.language text) m.language m.distinct d i (got j t) → Pushed T U n → n.size ≡ 1 → n.name ≡ name → Stands U (length T.nodes) t → after ≡ before → i < j → j ≤ length text → Added m text d i j name T U before after
leaf_added {T = T} {U} t before after r p z e s l h w =
    let n = pushed_node p in
    record {
      tree = t;
      reads = r;
      keeps = pushed_keeps p;
      stands = s;
      past = let q = ap (λ (k : Node). k.size) n ∙ z in omega (arith, q, pushed_long p);
      named = ap (λ (k : Node). k.name) n ∙ e;
      links = l;
      forward = h;
      within = w;
    }

pub leaf_stands : {T U : Table} {n : Node} {s : ℕ} {x : Lexical} {t : Raw} → Leaf s x t → Pushed T U n → Says T n t → n.size ≡ 1 → Stands U (length T.nodes) t
leaf_stands (l_null e) p s z = (leaf_head p s z, ap (λ (k : Node). k.size) (pushed_node p) ∙ z)
leaf_stands _ p s z = (leaf_head p s z, ap (λ (k : Node). k.size) (pushed_node p) ∙ z)
