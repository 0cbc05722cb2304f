use Rattle.std.proofs.Common.{◌≡◌, ◌-◌, [], take, drop, refl, ap, ◌∙◌, subst, arith}
use lib.Utf8.{encodes}
use Rattle.text.proofs.Handed.{handed_on}
use Rattle.model.specs.Values.{list, object, variable, scalar, string, nil, end}
use Rattle.source.specs.declared.nodes.Content.TheVariants.{List as ListContent, Object, Variable, String}
use Rattle.names.specs.declared.part.Part.TheVariants.{Text as TextPart}
use Rattle.text.specs.declared.number.NumberKind.{NumberKind}
use Rattle.text.specs.declared.number.NumberKind.TheVariants.{Whole, Decimal}
use Rattle.text.specs.declared.token.Token.TheVariants.{Dollar, OpenBracket, OpenBrace, Name, Number, Text}
use Rattle.text.specs.TokenGrammar.{Lexical, TokenOf}
use Rattle.reader.specs.Grammar.{l_string}
use Rattle.reader.specs.Reading.{starts_leaf, starts_list, starts_object, starts_variable}
use Rattle.reader.proofs.RdSights.{token_numeral}
use Rattle.reader.proofs.Leaves.{node_for, bare_node}
use Rattle.reader.proofs.Beginning.{holds_as, start_node, leaf_start, leaf_told, no_memory, no_start}
use Rattle.reader.proofs.reading.Reader.content_of.Goals as goal

pub decimal_content-requires : goal.decimal_content-requires
decimal_content-requires g c =
    let k = c.requires in
    let h = holds_as k (Number c.in-Number.spelled Decimal) (c.in-Number.is ∙ ap (λ (k : NumberKind). Number c.in-Number.spelled k) c.in-Decimal.is) in
    token_numeral g.W.Written.LANGUAGE _ _ _ _ (subst (λ (x : Lexical). TokenOf g.W.Written.LANGUAGE (drop c.args.lexeme.start c.args.self.text.now) x (drop c.args.lexeme.end c.args.self.text.now)) h.0 k.reads)

pub returns-in_err-text-in-Text : goal.returns-in_err-text-in-Text
returns-in_err-text-in-Text g c k =
    let h = holds_as k (Text c.in-Text.raw c.in-Text.plain) c.in-Text.is in
    rw (handed_on c.from_residual.ensures.1) (no_memory c.args.self.text.now [] [] c.args.lexeme.start k.token _ (c.in_err-text-in-Text.ensures h.1.0 h.0 h.1.2))

pub returns-in-OpenBracket : goal.returns-in-OpenBracket
returns-in-OpenBracket g c k =
    let s = c.args.lexeme.start in
    start_node (holds_as k OpenBracket c.in-OpenBracket.is) starts_list
    (bare_node c.args.self.text.now _ ListContent s (list s nil) refl refl refl refl refl tt refl)

pub returns-in-OpenBrace : goal.returns-in-OpenBrace
returns-in-OpenBrace g c k =
    let s = c.args.lexeme.start in
    start_node (holds_as k OpenBrace c.in-OpenBrace.is) starts_object
    (bare_node c.args.self.text.now _ Object s (object s end) refl refl refl refl refl tt refl)

pub returns-in-Dollar : goal.returns-in-Dollar
returns-in-Dollar g c k =
    let s = c.args.lexeme.start in
    let e = c.args.lexeme.end in
    let none : e - e ≡ 0 = omega arith in
    start_node (holds_as k Dollar c.in-Dollar.is) starts_variable
    (bare_node c.args.self.text.now _ (Variable (TextPart e e)) s (variable s []) refl refl refl refl refl
    (omega arith, k.within) (ap (λ n. take n (drop e c.args.self.text.now)) none))

pub returns-in-Name : goal.returns-in-Name
returns-in-Name g c k =
    let h = holds_as k (Name c.in-Name.word) c.in-Name.is in
    leaf_start h.0 (c.word_content.ensures c.args.self.text.now _ k.ordered k.within h.1)

pub returns-in-Whole : goal.returns-in-Whole
returns-in-Whole g c k =
    let h = holds_as k (Number c.in-Number.spelled Whole) (c.in-Number.is ∙ ap (λ (k : NumberKind). Number c.in-Number.spelled k) c.in-Whole.is) in
    leaf_start h.0 (c.whole_content.ensures c.args.self.text.now _ c.args.lexeme.start k.ordered k.within h.1)

pub returns-in-Decimal : goal.returns-in-Decimal
returns-in-Decimal g c k =
    let h = holds_as k (Number c.in-Number.spelled Decimal) (c.in-Number.is ∙ ap (λ (k : NumberKind). Number c.in-Number.spelled k) c.in-Decimal.is) in
    leaf_told c.args.self.text.now _ _ _ _ _ _ h.0 (c.decimal_content.ensures c.args.self.text.now c.args.lexeme.start)

pub returns-in_ok-text-in-Text : goal.returns-in_ok-text-in-Text
returns-in_ok-text-in-Text g c k =
    let h = holds_as k (Text c.in-Text.raw c.in-Text.plain) c.in-Text.is in
    let p = c.in_ok-text-in-Text.ensures h.1.0 h.0 h.1.2 in
    let s = c.args.lexeme.start in
    start_node h.1.1 (starts_leaf (l_string refl))
    (node_for c.args.self.text.now _ _ (String c.in_ok-text-in-Text.text) s (scalar s (string (encodes h.1.0))) refl refl refl refl refl
    p.fits p.is p.more p.grown)

pub returns-in_default : goal.returns-in_default
returns-in_default g c k = (refl, no_start g.W.Written.LANGUAGE c.args.self.text.now c.args.lexeme.start c.args.lexeme.end _ k.token c.args.lexeme.token c.in_default.not-Dollar c.in_default.not-OpenBracket c.in_default.not-OpenBrace c.in_default.not-Name c.in_default.not-Number c.in_default.not-Text k.holds)
