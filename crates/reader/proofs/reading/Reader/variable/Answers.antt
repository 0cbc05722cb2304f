use Rattle.std.proofs.Common.{vec_items, sym, refl, ap, ◌∙◌, arith}
use Rattle.text.proofs.Handed.{handed_on}
use Rattle.reader.proofs.Faults.{blames_all}
use Rattle.model.specs.Values.{variable}
use Rattle.names.specs.declared.names.Names.{Names}
use Rattle.names.specs.declared.part.Part.TheVariants.{Text}
use Rattle.source.specs.declared.nodes.Content.TheVariants.{Variable}
use Rattle.source.specs.declared.nodes.Node.{Node}
use Rattle.source.specs.Table.{Says, table_of}
use Rattle.text.specs.declared.token.Token.TheVariants.{Name}
use Rattle.text.specs.TokenGrammar.{Lexical}
use Rattle.reader.specs.Tokens.{sees, blind}
use Rattle.reader.specs.Reading.{as_variable, fails, Reads, r_variable}
use Rattle.reader.proofs.Beginning.{holds_as}
use Rattle.reader.proofs.Growing.{leaf_added}
use Rattle.reader.proofs.Tables.{Pushed, pushed_node, leaf_head}
use Rattle.reader.proofs.TokenKinds.{no_variable}
use Rattle.reader.proofs.reading.Reader.variable.Goals as goal

pub returns-in_err-lexeme : goal.returns-in_err-lexeme
returns-in_err-lexeme g c d room i name o =
    rw (handed_on c.from_residual.ensures.1) (blames_all (λ f. Reads _ _ _ d i (fails f)) _ (r_variable {v = blind c.in_err-lexeme.field-0.0} o.seen room c.in_err-lexeme.ensures refl))

pub returns-in_default : goal.returns-in_default
returns-in_default g c d room i name o =
    let k = c.in_ok-lexeme.ensures in
    let l = c.in_ok-lexeme.lexeme in
    r_variable {v = sees l.start l.end k.lexed.token} o.seen room k.seen
    (no_variable g.W.Written.LANGUAGE c.args.self.text.now l.start l.end k.lexed.token l.token o.start l.start l.end c.in_default.not-Name k.lexed.holds)

pub returns : goal.returns
returns g c d room i name o =
    let k = c.in_ok-lexeme.ensures in
    let l = c.in_ok-lexeme.lexeme in
    let w = c.in-Name.field-0 in
    let h = holds_as k.lexed (Name w) c.in-Name.is in
    let n : Node = record { content = Variable (Text l.start l.end); place = c.args.node.place; size = c.args.node.size; name = c.args.node.name } in
    let p : Pushed (table_of c.args.self.text.now c.args.nodes.now) (table_of c.args.self.text.now c.add.new.self) n = record { text = refl; pool = ap vec_items c.in_ok-add.ensures.pool; nodes = c.in_ok-add.ensures.told } in
    let says : Says (table_of c.args.self.text.now c.args.nodes.now) n (variable o.start w.now) = record {
      kind = refl;
      place = o.place;
      flag = refl;
      negative = refl;
      exponent = refl;
      fits = (k.lexed.ordered, k.lexed.within);
      text = sym h.1;
    } in
    leaf_added (variable o.start w.now) _ _
    (r_variable {v = sees l.start l.end k.lexed.token} o.seen room k.seen (ap (λ (x : Lexical). as_variable o.start (sees l.start l.end x)) h.0))
    p o.size o.named (leaf_head p says o.size, ap (λ (k : Node). k.size) (pushed_node p) ∙ o.size) (ap (λ (k : Names). vec_items k.links) c.in_ok-add.ensures.names)
    (omega (arith, o.forward, k.onward c.requires, k.lexed.ordered)) k.lexed.within
