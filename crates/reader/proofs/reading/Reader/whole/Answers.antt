use Rattle.std.proofs.Common.{◌≡◌, length, refl, ap, subst, rules}
use Rattle.text.proofs.Handed.{handed_on}
use Rattle.reader.proofs.Faults.{blames_all, blames_map}
use Rattle.source.specs.Table.{Stands, table_of}
use Rattle.text.specs.TokenFound.{View, v_end, view_of, Holds}
use Rattle.text.specs.TokenGrammar.{Lexical}
use Rattle.reader.specs.Tokens.{sees, blind}
use Rattle.reader.specs.Reading.{all_fails, all_read, after_all}
use Rattle.reader.specs.Document.{FaultWhole, whole_long, whole_read}
use Rattle.reader.specs.Told.{manner_of}
use Rattle.reader.proofs.Growing.{ValueFails}
use Rattle.reader.proofs.TokenKinds.{not_last}
use Rattle.reader.proofs.reading.Reader.whole.Goals as goal

pub returns-then-self-gt-LONGEST_TEXT : goal.returns-then-self-gt-LONGEST_TEXT
returns-then-self-gt-LONGEST_TEXT g c = whole_long c.if-self-gt-LONGEST_TEXT.true refl

pub returns-in_err-end : goal.returns-in_err-end
returns-in_err-end g c =
    rw (handed_on c.from_residual.ensures.1)
    (blames_map (ValueFails (manner_of g.W.Written.LANGUAGE c.args.self) c.args.self.text.now 33 0) (FaultWhole (manner_of g.W.Written.LANGUAGE c.args.self) c.args.self.text.now)
    (λ f r. whole_read c.if-self-gt-LONGEST_TEXT.false (all_fails r)) _ c.in_err-end.ensures)

pub returns-in_err-after : goal.returns-in_err-after
returns-in_err-after g c =
    let a = c.in_ok-end.ensures in
    rw (handed_on c.from_residual-in_err-after.ensures.1) (blames_all (FaultWhole (manner_of g.W.Written.LANGUAGE c.args.self) c.args.self.text.now) _ (whole_read c.if-self-gt-LONGEST_TEXT.false (all_read {v = blind c.in_err-after.field-0.0} a.reads c.in_err-after.ensures refl)))

pub returns : goal.returns
returns g c =
    let a = c.in_ok-end.ensures in
    let k = c.in_ok-after.ensures in
    let l = c.in_ok-after.after in
    let e = c.ne.ensures in
    let t = c.if-ne.false in
    let v : view_of l.token ≡ v_end = search rules in
    let h = subst (λ (v : View). Holds g.W.Written.LANGUAGE c.args.self.text.now l.start l.end v k.lexed.token) v k.lexed.holds in
    record {
      tree = a.tree;
      end = l.end;
      short = c.if-self-gt-LONGEST_TEXT.false;
      reads = all_read {v = sees l.start l.end k.lexed.token} a.reads k.seen (ap (λ (x : Lexical). after_all a.tree (sees l.start l.end x)) h.0);
      stands = subst (λ n. Stands (table_of c.args.self.text.now c.value.new.nodes) n a.tree) (ap length c.new-nodes.ensures.list) a.stands;
    }

pub returns-then-ne : goal.returns-then-ne
returns-then-ne g c =
    let a = c.in_ok-end.ensures in
    let k = c.in_ok-after.ensures in
    let l = c.in_ok-after.after in
    let e = c.ne.ensures in
    let t = c.if-ne.true in
    let n : view_of l.token ≡ v_end → ⊥ = search rules in
    whole_read c.if-self-gt-LONGEST_TEXT.false
    (all_read {v = sees l.start l.end k.lexed.token} a.reads k.seen (not_last g.W.Written.LANGUAGE c.args.self.text.now l.start l.end k.lexed.token (view_of l.token) a.tree l.start l.end n k.lexed.holds))
