use Rattle.std.proofs.Common.{◌≡◌, ℕ, List, Ok, Err, Result, sym, ap, ◌∙◌, subst}
use lib.Utf8.{encodes}
use Rattle.text.specs.declared.fault.Fault.{Fault}
use Rattle.text.specs.declared.language.Language.{Language}
use Rattle.text.specs.declared.language.Language.TheVariants.{Json}
use Rattle.text.specs.declared.token.Token.TheVariants.{Text}
use Rattle.text.specs.TokenGrammar.{Lexical, a_string}
use Rattle.names.specs.declared.part.Part.{Part}
use Rattle.reader.specs.Grammar.{name_of}
use Rattle.reader.specs.Told.{PartTold, NamePartTold}
use Rattle.reader.proofs.Beginning.{holds_as}
use Rattle.reader.proofs.reading.Reader.name_part.Goals as goal

named : (language : Language) (text before after cs : List ℕ) (start : ℕ) (x : Lexical) (r : Result Part Fault) → language ≡ Json → x ≡ a_string cs → PartTold text before after (encodes cs) r → NamePartTold language text before after start x r
named language text before after cs start x (Ok p) e f t = (encodes cs, ap (λ l. name_of l x) e ∙ ap (name_of Json) f, t)
named language text before after cs start x (Err f) e g t = subst (λ (h : Fault). NamePartTold language text before after start x (Err h)) (sym t) tt

pub returns-in-Json-Text : goal.returns-in-Json-Text
returns-in-Json-Text g c k =
    let h = holds_as k (Text c.in-Json-Text.raw c.in-Json-Text.plain) c.in-Json-Text.is-1 in
    named g.W.Written.LANGUAGE c.args.self.text.now _ _ h.1.0 c.args.lexeme.start k.token c.string_part.result (sym c.LANGUAGE.ensures ∙ c.in-Json-Text.is-0) h.1.1 (c.string_part.ensures h.1.0 h.0 h.1.2)
