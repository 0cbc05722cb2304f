use Rattle.std.proofs.Common.{◌≡◌, ℕ, ControlFlow, ◌-◌, ◌≤◌, [], ◌∷◌, ◌++◌, length, take, List, Ok, Result, vec_items, sym, refl, ap, ◌∙◌, subst, arith}
use Rattle.text.proofs.Handed.{handed_on}
use Rattle.reader.proofs.Faults.{blames_all, blames_map}
use Rattle.model.specs.Values.{list, object, variable, nil, end, place_of}
use Rattle.names.specs.declared.names.Link.{Link}
use Rattle.names.specs.declared.names.Names.{Names}
use Rattle.source.specs.Contents.{kind_in}
use Rattle.source.specs.Nodes.{closed}
use Rattle.source.specs.Table.{Table, Says, table_of}
use Rattle.text.specs.declared.fault.Fault.{Fault}
use Rattle.text.specs.TokenGrammar.{Lexical, a_mark, open_bracket, close_bracket, open_brace, close_brace, dollar}
use Rattle.text.specs.declared.token.Token.TheVariants.{CloseBracket, CloseBrace}
use Rattle.reader.specs.Tokens.{Sights, sees, blind, Seen}
use Rattle.reader.specs.Reading.{fails, r_deep, r_leaf, r_list, r_object, ReadsList, ReadsItems, rl_items, ri_fails, ri_halts, ReadsObject, ReadsMembers, ro_members, rm_unnamed, rm_fails, rm_halts, r_blind, na_blind}
use Rattle.reader.specs.Told.{Told, StepIs, NamesHeld, bare, manner_of}
use Rattle.reader.proofs.Growing.{ValueFails, ListFails, ObjectFails, NameFails, items_step, items_done, items_none, list_closed, relinked, members_start, member_read, members_step, members_done, members_none, object_closed, told_pooled, leaf_added, leaf_stands}
use Rattle.reader.proofs.Naming.{held_none, held_pool}
use Rattle.reader.proofs.Tables.{Pushed, Pooled, Closed, says_bare}
use Rattle.reader.proofs.TokenKinds.{marked, unmarked, mark_some, opens_list, opens_object, opens_variable, is_leaf, opened_as, begun_goes}
use Rattle.reader.proofs.reading.Reader.+items_list_members_object_value.Given.{Over}
use Rattle.reader.proofs.reading.Reader.+items_list_members_object_value.Goals as goal
use Rattle.reader.proofs.reading.Reader.+items_list_members_object_value.Goals.{items-At-loop-end, members-At-loop-name, value-In_ok-lexeme}

pub items-returns-in_err-first : goal.items-returns-in_err-first
items-returns-in_err-first g t c =
    let s = c.in_err-first.ensures in
    rw (handed_on c.from_residual.ensures.1) (blames_all (λ f. ReadsList _ _ _ _ _ (fails f)) _ (rl_items {v = blind c.in_err-first.field-0.0} s refl (ri_fails (r_blind s))))

pub items-returns-then-eq : goal.items-returns-then-eq
items-returns-then-eq g t c =
    let k = c.in_ok-first.ensures in
    let l = c.in_ok-first.first in
    let e = sym c.eq.ensures ∙ c.if-eq.true in
    items_none _ _ (subst (λ (x : Lexical). Seen g.W.Written.LANGUAGE c.args.self.text.now c.args.at l.start l.end x) (marked k.lexed CloseBracket close_bracket refl e) k.seen)
    (omega (arith, k.onward c.requires, mark_some k.lexed CloseBracket close_bracket refl e)) k.lexed.within

-- the list is not at its end, and fails where its items do
items-fail : (g : Over) (t : ℕ) (c : items-At-loop-end g t) (f : Fault) → ReadsItems (Sights g.W.Written.LANGUAGE c.args.self.text.now) g.W.Written.LANGUAGE c.args.self.distinct c.args.levels c.loop-end.next (fails f)
    → ListFails (manner_of g.W.Written.LANGUAGE c.args.self) c.args.self.text.now c.args.levels c.args.at f
items-fail g t c f r =
    let k = c.in_ok-first.ensures in
    let l = c.in_ok-first.first in
    let e = unmarked k.lexed CloseBracket close_bracket refl (sym c.eq.ensures ∙ c.if-eq.false) in
    rl_items {v = sees l.start l.end k.lexed.token} k.seen e (c.loop-end.invariant.0.faults f r)

pub items-returns-in_err-end : goal.items-returns-in_err-end
items-returns-in_err-end g t c =
    rw (handed_on c.from_residual-in_err-end.ensures.1)
    (blames_map (ValueFails (manner_of g.W.Written.LANGUAGE c.args.self) c.args.self.text.now c.args.levels c.loop-end.next) (ListFails (manner_of g.W.Written.LANGUAGE c.args.self) c.args.self.text.now c.args.levels c.args.at)
    (λ f r. items-fail g t (goal.at.items-returns-in_err-end g t c).At-loop-end f (ri_fails r)) _ c.in_err-end.ensures)

pub items-returns-in_err-at : goal.items-returns-in_err-at
items-returns-in_err-at g t c =
    let a = c.in_ok-end.ensures in
    let s = c.in_err-at.ensures close_bracket refl in
    rw (handed_on c.from_residual-in_err-at.ensures.1) (blames_all (ListFails (manner_of g.W.Written.LANGUAGE c.args.self) c.args.self.text.now c.args.levels c.args.at) _ (items-fail g t (goal.at.items-returns-in_err-at g t c).At-loop-end _ (ri_halts {v = s.0} a.reads s.1 s.2)))

pub items-loop-end-preserved : goal.items-loop-end-preserved
items-loop-end-preserved g t c =
    let a = c.in_ok-end.ensures in
    let s = c.in_ok-at.ensures close_bracket refl in
    let q = subst (λ (x : ControlFlow ℕ ℕ). StepIs g.W.Written.LANGUAGE close_bracket c.in_ok-end.end s.0 c.args.self.text.now x) c.in-Continue.is s.2 in
    (items_step s.0 c.loop-end.invariant.0 a s.1 q.0 q.1 q.2, a.links ∙ c.loop-end.invariant.1)

pub items-returns-in-Break : goal.items-returns-in-Break
items-returns-in-Break g t c =
    let k = c.in_ok-first.ensures in
    let l = c.in_ok-first.first in
    let e = unmarked k.lexed CloseBracket close_bracket refl (sym c.eq.ensures ∙ c.if-eq.false) in
    let a = c.in_ok-end.ensures in
    let s = c.in_ok-at.ensures close_bracket refl in
    let q = subst (λ (x : ControlFlow ℕ ℕ). StepIs g.W.Written.LANGUAGE close_bracket c.in_ok-end.end s.0 c.args.self.text.now x) c.in-Break.is s.2 in
    items_done s.0 (sees l.start l.end k.lexed.token) k.seen e c.loop-end.invariant.0 a c.loop-end.invariant.1 s.1 q.0 q.1 q.2

pub list-returns-in_err-end : goal.list-returns-in_err-end
list-returns-in_err-end g t c i name o =
    rw (handed_on c.from_residual-in_err-end.ensures.1)
    (blames_map (ListFails (manner_of g.W.Written.LANGUAGE c.args.self) c.args.self.text.now (c.args.levels - 1) c.args.at) (ValueFails (manner_of g.W.Written.LANGUAGE c.args.self) c.args.self.text.now c.args.levels i)
    (λ f r. r_list o.seen c.requires.room r refl) _ c.in_err-end.ensures)

pub list-returns : goal.list-returns
list-returns g t c i name o =
    let T = table_of c.args.self.text.now c.args.nodes.now in
    let a = c.in_ok-add.ensures in
    let U = table_of c.args.self.text.now c.add.new.self in
    let V = table_of c.args.self.text.now c.items.new.nodes in
    let W = table_of c.args.self.text.now c.close.new.self in
    let index : c.len-index.result ≡ length T.nodes = c.len-index.ensures ∙ c.args.nodes.now.list.ok.0 in
    let p : Pushed T U c.args.node = record { text = refl; pool = ap vec_items a.pool; nodes = a.told } in
    let q : Closed V W (length T.nodes) = record { text = refl; pool = ap vec_items c.close.ensures.pool; nodes = c.close.ensures.list ∙ ap (closed V.nodes) index } in
    relinked (list_closed c.requires.room o p c.in_ok-end.ensures q) (ap (λ (n : Names). vec_items n.links) a.names) (sym (ap (λ (n : Names). vec_items n.links) c.close.ensures.names))

pub members-returns-in_err-first : goal.members-returns-in_err-first
members-returns-in_err-first g t c =
    let s = c.in_err-first.ensures in
    rw (handed_on c.from_residual.ensures.1) (blames_all (λ f. ReadsObject _ _ _ _ _ (fails f)) _ (ro_members {v = blind c.in_err-first.field-0.0} s refl (rm_unnamed (na_blind s))))

pub members-returns-then-eq : goal.members-returns-then-eq
members-returns-then-eq g t c =
    let k = c.in_ok-first.ensures in
    let l = c.in_ok-first.first in
    let e = sym c.eq.ensures ∙ c.if-eq.true in
    members_none _ _ (subst (λ (x : Lexical). Seen g.W.Written.LANGUAGE c.args.self.text.now c.args.at l.start l.end x) (marked k.lexed CloseBrace close_brace refl e) k.seen)
    (omega (arith, k.onward c.requires.within, mark_some k.lexed CloseBrace close_brace refl e)) k.lexed.within

pub members-loop-name-init : goal.members-loop-name-init
members-loop-name-init g t c = ([], members_start (manner_of g.W.Written.LANGUAGE c.args.self) c.args.self.text.now c.args.levels c.args.at _ c.requires.within, held_none c.args.self.distinct c.args.self.text.now _ _ c.args.base c.requires.none, refl, omega (arith, c.requires.none))

-- the object is not at its end, and fails where its members do
members-fail : (g : Over) (t : ℕ) (c : members-At-loop-name g t) (f : Fault) → ReadsMembers (Sights g.W.Written.LANGUAGE c.args.self.text.now) g.W.Written.LANGUAGE c.args.self.distinct c.args.levels c.loop-name.invariant.0 c.loop-name.next (fails f)
    → ObjectFails (manner_of g.W.Written.LANGUAGE c.args.self) c.args.self.text.now c.args.levels c.args.at f
members-fail g t c f r =
    let k = c.in_ok-first.ensures in
    let l = c.in_ok-first.first in
    let e = unmarked k.lexed CloseBrace close_brace refl (sym c.eq.ensures ∙ c.if-eq.false) in
    ro_members {v = sees l.start l.end k.lexed.token} k.seen e (c.loop-name.invariant.1.faults f r)

pub members-returns-in_err-name : goal.members-returns-in_err-name
members-returns-in_err-name g t c =
    let i = c.loop-name.invariant in
    rw (handed_on c.from_residual-in_err-name.ensures.1)
    (blames_map (NameFails (manner_of g.W.Written.LANGUAGE c.args.self) c.args.self.text.now i.0 c.loop-name.next) (ObjectFails (manner_of g.W.Written.LANGUAGE c.args.self) c.args.self.text.now c.args.levels c.args.at)
    (λ f n. members-fail g t (goal.at.members-returns-in_err-name g t c).At-loop-name f (rm_unnamed n)) _ (c.in_err-name.ensures.told i.0 i.2))

pub members-returns-in_err-end : goal.members-returns-in_err-end
members-returns-in_err-end g t c =
    let i = c.loop-name.invariant in
    let r = c.in_ok-name.ensures.told i.0 i.2 in
    rw (handed_on c.from_residual-in_err-end.ensures.1)
    (blames_map (ValueFails (manner_of g.W.Written.LANGUAGE c.args.self) c.args.self.text.now c.args.levels c.in_ok-name.onward) (ObjectFails (manner_of g.W.Written.LANGUAGE c.args.self) c.args.self.text.now c.args.levels c.args.at)
    (λ f n. members-fail g t (goal.at.members-returns-in_err-end g t c).At-loop-name f (rm_fails r.reads n)) _ c.in_err-end.ensures)

pub members-returns-in_err-at : goal.members-returns-in_err-at
members-returns-in_err-at g t c =
    let i = c.loop-name.invariant in
    let r = c.in_ok-name.ensures.told i.0 i.2 in
    let a = c.in_ok-end.ensures in
    let s = c.in_err-at.ensures close_brace refl in
    rw (handed_on c.from_residual-in_err-at.ensures.1) (blames_all (ObjectFails (manner_of g.W.Written.LANGUAGE c.args.self) c.args.self.text.now c.args.levels c.args.at) _ (members-fail g t (goal.at.members-returns-in_err-at g t c).At-loop-name _ (rm_halts {v = s.0} r.reads a.reads s.1 s.2)))

pub members-loop-name-preserved : goal.members-loop-name-preserved
members-loop-name-preserved g t c =
    let i = c.loop-name.invariant in
    let r = c.in_ok-name.ensures.told i.0 i.2 in
    let T = table_of c.args.self.text.now c.loop-name.nodes in
    let U = table_of c.args.self.text.now c.member_name.new.nodes in
    let w : Pooled T U = record { text = refl; nodes = ap vec_items c.in_ok-name.ensures.list; more = r.part.more; pool = r.part.grown } in
    let a = c.in_ok-end.ensures in
    let b = member_read {T = T} {U = U} r refl w a in
    let s = c.in_ok-at.ensures close_brace refl in
    let q = subst (λ (x : ControlFlow ℕ ℕ). StepIs g.W.Written.LANGUAGE close_brace c.in_ok-end.end s.0 c.args.self.text.now x) c.in-Continue.is s.2 in (
      i.0 ++ r.name ∷ [],
      members_step s.0 i.1 b s.1 q.0 q.1 q.2,
      subst (λ x. NamesHeld c.args.self.distinct c.args.self.text.now (vec_items c.value.new.nodes.pool) x c.args.base (i.0 ++ r.name ∷ [])) (sym a.links)
          (held_pool c.args.self.distinct c.args.self.text.now U.pool _ _ c.args.base _ a.keeps.more a.keeps.pool r.held),
      ap (take c.args.base) a.links ∙ r.below ∙ i.3,
      subst (λ x. c.args.base ≤ length x) (sym a.links) r.within,
    )

pub members-returns-in-Break : goal.members-returns-in-Break
members-returns-in-Break g t c =
    let k = c.in_ok-first.ensures in
    let l = c.in_ok-first.first in
    let e = unmarked k.lexed CloseBrace close_brace refl (sym c.eq.ensures ∙ c.if-eq.false) in
    let i = c.loop-name.invariant in
    let r = c.in_ok-name.ensures.told i.0 i.2 in
    let T = table_of c.args.self.text.now c.loop-name.nodes in
    let U = table_of c.args.self.text.now c.member_name.new.nodes in
    let w : Pooled T U = record { text = refl; nodes = ap vec_items c.in_ok-name.ensures.list; more = r.part.more; pool = r.part.grown } in
    let a = c.in_ok-end.ensures in
    let b = member_read {T = T} {U = U} r refl w a in
    let s = c.in_ok-at.ensures close_brace refl in
    let q = subst (λ (x : ControlFlow ℕ ℕ). StepIs g.W.Written.LANGUAGE close_brace c.in_ok-end.end s.0 c.args.self.text.now x) c.in-Break.is s.2 in
    members_done s.0 (sees l.start l.end k.lexed.token) k.seen e i.1 b (ap (take c.args.base) a.links ∙ r.below ∙ i.3) s.1 q.0 q.1 q.2

pub object-returns-in_err-end : goal.object-returns-in_err-end
object-returns-in_err-end g t c i name o =
    rw (handed_on c.from_residual-in_err-end.ensures.1)
    (blames_map (ObjectFails (manner_of g.W.Written.LANGUAGE c.args.self) c.args.self.text.now (c.args.levels - 1) c.args.at) (ValueFails (manner_of g.W.Written.LANGUAGE c.args.self) c.args.self.text.now c.args.levels i)
    (λ f r. r_object o.seen c.requires.room r refl) _ c.in_err-end.ensures)

pub object-returns : goal.object-returns
object-returns g t c i name o =
    let T = table_of c.args.self.text.now c.args.nodes.now in
    let a = c.in_ok-add.ensures in
    let U = table_of c.args.self.text.now c.add.new.self in
    let V = table_of c.args.self.text.now c.members.new.nodes in
    let W = table_of c.args.self.text.now c.close-2.new.self in
    let index : c.len-index.result ≡ length T.nodes = c.len-index.ensures ∙ c.args.nodes.now.list.ok.0 in
    let p : Pushed T U c.args.node = record { text = refl; pool = ap vec_items a.pool; nodes = a.told } in
    let q : Closed V W (length T.nodes) = record { text = refl; pool = ap vec_items c.close-2.ensures.pool; nodes = c.close-2.ensures.list ∙ ap (closed V.nodes) index } in
    let same = ap (λ (n : Names). vec_items n.links) a.names in
    relinked (object_closed {last = vec_items c.close.new.self.links} c.requires.room o p c.in_ok-end.ensures q (c.len-base.ensures ∙ sym (ap length same)) c.close.ensures) same (sym (ap (λ (n : Names). vec_items n.links) c.close-2.ensures.names))

pub value-returns-then-levels-eq0 : goal.value-returns-then-levels-eq0
value-returns-then-levels-eq0 g t c =
    let b = c.in_ok-lexeme.ensures in
    r_deep b.looks.seen b.starts.starts c.if-levels-eq0.true

-- the table of the nodes so far, where the pool may have grown with the node that is begun
abbrev begun : (g : Over) (t : ℕ) → value-In_ok-lexeme g t → Table
begun g t c = record { text = c.args.self.text.now; nodes = vec_items c.args.nodes.now.list; pool = vec_items c.begin.new.pool }

-- what is told from there on is told of the table before
begun_told : (g : Over) (t : ℕ) (c : value-In_ok-lexeme g t) (W : Table) (before after : List Link) (r : Result ℕ Fault) → Told (manner_of g.W.Written.LANGUAGE c.args.self) c.args.self.text.now c.args.levels c.args.at c.args.name (begun g t c) W before after r
    → Told (manner_of g.W.Written.LANGUAGE c.args.self) c.args.self.text.now c.args.levels c.args.at c.args.name (table_of c.args.self.text.now c.args.nodes.now) W before after r
begun_told g t c W before after r =
    let n = c.in_ok-lexeme.ensures.starts.node in
    told_pooled (manner_of g.W.Written.LANGUAGE c.args.self) c.args.self.text.now c.args.levels c.args.at c.args.name (table_of c.args.self.text.now c.args.nodes.now) (begun g t c) W before after r (record { text = refl; nodes = refl; more = n.more; pool = n.grown })

pub value-returns-in-List : goal.value-returns-in-List
value-returns-in-List g t c =
    let b = c.in_ok-lexeme.ensures in
    let d = (goal.at.value-returns-in-List g t c).In_ok-lexeme in
    let U = begun g t d in
    let o = opens_list b.starts.starts (sym b.starts.node.says.kind ∙ ap kind_in c.in-List.is) in
    begun_told g t d _ _ _ c.list.result
    (c.list.ensures c.args.at c.args.name (opened_as (manner_of g.W.Written.LANGUAGE c.args.self) U (a_mark open_bracket) (list c.in_ok-lexeme.lexeme.start nil) (list c.in_ok-lexeme.node.place nil) refl refl c.requires b o.0 o.1 refl (λ k e. ap (λ n. (list n nil)) (sym (b.starts.node.says.place ∙ ap place_of o.1)))))

pub value-returns-in-Object : goal.value-returns-in-Object
value-returns-in-Object g t c =
    let b = c.in_ok-lexeme.ensures in
    let d = (goal.at.value-returns-in-Object g t c).In_ok-lexeme in
    let U = begun g t d in
    let o = opens_object b.starts.starts (sym b.starts.node.says.kind ∙ ap kind_in c.in-Object.is) in
    begun_told g t d _ _ _ c.object.result
    (c.object.ensures c.args.at c.args.name (opened_as (manner_of g.W.Written.LANGUAGE c.args.self) U (a_mark open_brace) (object c.in_ok-lexeme.lexeme.start end) (object c.in_ok-lexeme.node.place end) refl refl c.requires b o.0 o.1 refl (λ k e. ap (λ n. (object n end)) (sym (b.starts.node.says.place ∙ ap place_of o.1)))))

pub value-returns-in-Variable : goal.value-returns-in-Variable
value-returns-in-Variable g t c =
    let b = c.in_ok-lexeme.ensures in
    let d = (goal.at.value-returns-in-Variable g t c).In_ok-lexeme in
    let U = begun g t d in
    let o = opens_variable b.starts.starts (sym b.starts.node.says.kind ∙ ap kind_in c.in-Variable.is) in
    begun_told g t d _ _ _ c.variable.result
    (c.variable.ensures c.args.levels (omega arith) c.args.at c.args.name (opened_as (manner_of g.W.Written.LANGUAGE c.args.self) U (a_mark dollar) (variable c.in_ok-lexeme.lexeme.start []) (variable c.in_ok-lexeme.node.place []) refl refl c.requires b o.0 o.1 refl (λ k e. ap (λ n. (variable n [])) (sym (b.starts.node.says.place ∙ ap place_of o.1)))))

pub value-returns-in_ok-add-in_default : goal.value-returns-in_ok-add-in_default
value-returns-in_ok-add-in_default g t c =
    let b = c.in_ok-lexeme.ensures in
    let d = (goal.at.value-returns-in_ok-add-in_default g t c).In_ok-lexeme in
    let U = begun g t d in
    let x = c.in_ok-add-in_default.ensures in
    let f = is_leaf c.in_ok-lexeme.node.content b.starts.starts b.starts.node.says.kind c.in_default.not-List c.in_default.not-Object c.in_default.not-Variable in
    let p : Pushed U (table_of c.args.self.text.now c.add.new.self) c.in_ok-lexeme.node = record { text = refl; pool = ap vec_items x.pool; nodes = x.told } in
    let s : Says U c.in_ok-lexeme.node b.starts.tree = says_bare {T = bare c.args.self.text.now (vec_items c.begin.new.pool)} {U = U} refl refl b.starts.node.says in
    begun_told g t d _ _ _ (Ok c.in_ok-lexeme.lexeme.end)
    (leaf_added b.starts.tree _ _ (r_leaf b.looks.seen (omega arith) f) p b.starts.node.size b.starts.node.named (leaf_stands f p s b.starts.node.size) (ap (λ (n : Names). vec_items n.links) x.names) (begun_goes c.requires b) b.looks.lexed.within)
