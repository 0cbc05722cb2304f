use Rattle.std.proofs.Common.{◌≡◌, ◌≤◌, ◌∙◌, false, List, [], ◌∷◌, ◌++◌, length, take, vec_items, sym, refl, subst, arith}
use Rattle.std.proofs.Math.Option.{some}
use Rattle.model.specs.Values.{Name}
use Rattle.std.proofs.lemmas.Bool.{not-true, not-false}
use Rattle.text.proofs.Handed.{handed_on}
use Rattle.reader.proofs.Faults.{blames_all, blames_map}
use Rattle.text.specs.declared.token.Token.TheVariants.{Colon}
use Rattle.text.specs.TokenGrammar.{colon}
use Rattle.reader.specs.Tokens.{Sight, Sights, sees, blind}
use Rattle.reader.specs.Grammar.{name_of}
use Rattle.reader.specs.Told.{PartFor, NamesHeld, manner_of}
use Rattle.reader.specs.Reading.{Out, NameAt, repeats, colon_after, na_blind, na_none, na_long, na_repeated, na_name}
use Rattle.reader.proofs.Growing.{NameFails}
use Rattle.reader.proofs.Naming.{part_length, name_fresh, name_known, colon_there, colon_lacks}
use Rattle.reader.proofs.TokenKinds.{marked, unmarked, mark_some}
use Rattle.reader.proofs.reading.Reader.member_name.Given.{Over}
use Rattle.reader.proofs.reading.Reader.member_name.Goals as goal
use Rattle.reader.proofs.reading.Reader.member_name.Goals.{In_ok-name, Else-len-gt-LONGEST_NAME, Else-not-branch}

pub returns-in_err-lexeme-clause-told : goal.returns-in_err-lexeme-clause-told
returns-in_err-lexeme-clause-told g c ns h =
    rw (handed_on c.from_residual.ensures.1) (blames_all (NameFails (manner_of g.W.Written.LANGUAGE c.args.self) c.args.self.text.now ns c.args.at) _ (na_blind c.in_err-lexeme.ensures))

pub returns-in_err-name-clause-told : goal.returns-in_err-name-clause-told
returns-in_err-name-clause-told g c ns h =
    let k = c.in_ok-lexeme.ensures in
    let P = NameFails (manner_of g.W.Written.LANGUAGE c.args.self) c.args.self.text.now ns c.args.at in
    rw (handed_on c.from_residual-in_err-name.ensures.1) (blames_map _ P (λ f e. subst P (sym e.0) (na_none k.seen e.1)) _ (c.in_err-name.ensures k.lexed))

-- the name that the token is
named : (g : Over) (c : In_ok-name g) → (n : Name) × (name_of g.W.Written.LANGUAGE c.in_ok-lexeme.ensures.lexed.token ≡ some n) × PartFor c.args.self.text.now (vec_items c.args.nodes.now.pool) (vec_items c.name_part.new.pool) n c.in_ok-name.name
named g c = c.in_ok-name.ensures c.in_ok-lexeme.ensures.lexed

pub returns-then-len-gt-LONGEST_NAME-clause-told : goal.returns-then-len-gt-LONGEST_NAME-clause-told
returns-then-len-gt-LONGEST_NAME-clause-told g c ns h =
    let f = named g (goal.at.returns-then-len-gt-LONGEST_NAME-clause-told g c).In_ok-name in
    na_long c.in_ok-lexeme.ensures.seen f.1 (omega (arith, part_length f.2, c.len.ensures, c.if-len-gt-LONGEST_NAME.true))

-- it is not too long
short : (g : Over) (c : Else-len-gt-LONGEST_NAME g) → length (named g (goal.at.Else-len-gt-LONGEST_NAME g c).In_ok-name).0 ≤ 127
short g c = omega (arith, part_length (named g (goal.at.Else-len-gt-LONGEST_NAME g c).In_ok-name).2, c.len.ensures, c.if-len-gt-LONGEST_NAME.false)

pub returns-then-not-branch-clause-told : goal.returns-then-not-branch-clause-told
returns-then-not-branch-clause-told g c ns h =
    let f = named g (goal.at.returns-then-not-branch-clause-told g c).In_ok-name in
    na_repeated c.in_ok-lexeme.ensures.seen f.1 (short g (goal.at.returns-then-not-branch-clause-told g c).Else-len-gt-LONGEST_NAME)
    (name_known c.args.self.distinct c.args.self.text.now (vec_items c.args.nodes.now.pool) (vec_items c.name_part.new.pool) c.deref.result.now c.args.base _ (vec_items c.register.new.names.links) c.in_ok-name.name f.0 ns c.deref.ensures.value f.2 h _ c.if-not-branch.true c.in_ok-register.ensures)

-- it is new, and what is seen after it tells what it comes to
module _ (g : Over) (c : Else-not-branch g) (ns : List Name) (h : NamesHeld c.args.self.distinct c.args.self.text.now (vec_items c.args.nodes.now.pool) (vec_items c.args.nodes.now.names.links) c.args.base ns) where
  abbrev name : Name
  name = (named g (goal.at.Else-not-branch g c).In_ok-name).0

  fresh : (repeats c.args.self.distinct ns name ≡ false) × NamesHeld c.args.self.distinct c.args.self.text.now (vec_items c.name_part.new.pool) (vec_items c.register.new.names.links) c.args.base (ns ++ name ∷ [])
      × (take c.args.base (vec_items c.register.new.names.links) ≡ take c.args.base (vec_items c.args.nodes.now.names.links)) × (c.args.base ≤ length (vec_items c.register.new.names.links))
  fresh = name_fresh c.args.self.distinct c.args.self.text.now (vec_items c.args.nodes.now.pool) (vec_items c.name_part.new.pool) c.deref.result.now c.args.base _ (vec_items c.register.new.names.links) c.in_ok-name.name name ns c.deref.ensures.value (named g (goal.at.Else-not-branch g c).In_ok-name).2 h _ c.if-not-branch.false c.requires.base c.in_ok-register.ensures

  seen_after : (v : Sight) {o : Out Name} → Sights g.W.Written.LANGUAGE c.args.self.text.now c.in_ok-lexeme.lexeme.end v → colon_after name v ≡ o
      → NameAt (Sights g.W.Written.LANGUAGE c.args.self.text.now) g.W.Written.LANGUAGE c.args.self.distinct ns c.args.at o
  seen_after v s e = na_name {v = v} c.in_ok-lexeme.ensures.seen (named g (goal.at.Else-not-branch g c).In_ok-name).1 (short g (goal.at.Else-not-branch g c).Else-len-gt-LONGEST_NAME) fresh.0 s e

pub returns-in_err-colon-clause-told : goal.returns-in_err-colon-clause-told
returns-in_err-colon-clause-told g c ns h =
    rw (handed_on c.from_residual-in_err-colon.ensures.1)
    (blames_all (NameFails (manner_of g.W.Written.LANGUAGE c.args.self) c.args.self.text.now ns c.args.at) _
    (seen_after g (goal.at.returns-in_err-colon-clause-told g c).Else-not-branch ns h (blind c.in_err-colon.field-0.0) c.in_err-colon.ensures refl))

pub returns-then-ne-clause-told : goal.returns-then-ne-clause-told
returns-then-ne-clause-told g c ns h =
    let j = c.in_ok-colon.ensures in
    let l = c.in_ok-colon.colon in
    seen_after g (goal.at.returns-then-ne-clause-told g c).Else-not-branch ns h (sees l.start l.end j.lexed.token) j.seen
    (colon_lacks _ l.start l.end j.lexed.token (unmarked j.lexed Colon colon refl (not-true _ (sym c.ne.ensures ∙ c.if-ne.true))))

pub returns-clause-told : goal.returns-clause-told
returns-clause-told g c ns h =
    let k = c.in_ok-lexeme.ensures in
    let j = c.in_ok-colon.ensures in
    let l = c.in_ok-colon.colon in
    let d = (goal.at.returns-clause-told g c).Else-not-branch in
    let e = not-false _ (sym c.ne.ensures ∙ c.if-ne.false) in
    let r = fresh g d ns h in
    record {
      name = name g d ns h;
      reads = seen_after g d ns h (sees l.start l.end j.lexed.token) j.seen (colon_there _ l.start l.end j.lexed.token (marked j.lexed Colon colon refl e));
      part = (named g (goal.at.returns-clause-told g c).In_ok-name).2;
      held = r.1;
      below = r.2;
      within = r.3;
      forward = omega (arith, k.onward c.requires.within, k.lexed.ordered, j.onward k.lexed.within, mark_some j.lexed Colon colon refl e);
      inside = j.lexed.within;
    }
