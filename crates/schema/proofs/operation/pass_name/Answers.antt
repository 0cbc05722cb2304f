use Rattle.std.proofs.Common.{◌≡◌, ℕ, false, List, Ok, Bor, refl, ap, subst, arith}
use Rattle.text.proofs.Handed.{handed_on}
use Rattle.text.specs.declared.language.Language.TheVariants.{Graphql}
use Rattle.text.specs.declared.token.Token.{Token}
use Rattle.text.specs.declared.token.Token.TheVariants.{Name as NameToken, Number, Text, End}
use Rattle.text.specs.TokenGrammar.{Lexical, a_name}
use Rattle.text.specs.TokenFound.{view_of, Holds}
use Rattle.reader.proofs.Faults.{blames_all}
use Rattle.reader.specs.Tokens.{sees, blind}
use Rattle.reader.specs.Reading.{fails}
use Rattle.schema.specs.OperationReading.{ReadsName, is_name}
use Rattle.schema.specs.Told.{sights}
use Rattle.schema.proofs.Taking.{looked, chosen_yes, chosen_no}
use Rattle.schema.proofs.operation.pass_name.Goals as goal

no_name : (text : List ℕ) (i j : ℕ) (t : Token) (x : Lexical) → ((w : Bor (List ℕ)) → t ≡ NameToken w → ⊥) → Holds Graphql text i j (view_of t) x → is_name x ≡ false
no_name text i j (NameToken w) x n h = absurd (n w refl)
no_name text i j (Number w k) x n h = ap is_name h.0
no_name text i j (Text w p) x n h = ap is_name h.1.1
no_name text i j End x n h = ap is_name h.0
no_name text i j _ x n h = ap is_name h

pub returns-in_err-lexeme : goal.returns-in_err-lexeme
returns-in_err-lexeme c =
    let t = c.args.tokens.now in
    rw (handed_on c.from_residual.ensures.1) (blames_all (λ g. ReadsName (sights t) t.at (fails g)) _ (blind c.in_err-lexeme.field-0.0, c.in_err-lexeme.ensures.told, refl))

pub returns-in-Name : goal.returns-in-Name
returns-in-Name c =
    let t = c.args.tokens.now in
    let l = c.in_ok-lexeme.lexeme in
    let k = looked t (Ok l) c.in_ok-lexeme.ensures.told c.in_ok-lexeme.ensures.placed in
    let w = c.in-Name.field-0 in
    let h : k.lexed.token ≡ a_name w.now = (subst (λ v. Holds Graphql t.text.now l.start l.end (view_of v) k.lexed.token) c.in-Name.is k.lexed.holds).0 in
    record {
      value = tt;
      reads = (sees l.start l.end k.lexed.token, k.seen, chosen_yes (is_name k.lexed.token) _ _ (ap is_name h) refl);
      means = refl;
      onward = (refl, omega (arith, k.onward (omega arith), k.lexed.ordered));
    }

pub returns-in_default : goal.returns-in_default
returns-in_default c =
    let t = c.args.tokens.now in
    let l = c.in_ok-lexeme.lexeme in
    let k = looked t (Ok l) c.in_ok-lexeme.ensures.told c.in_ok-lexeme.ensures.placed in
    record {
      value = tt;
      reads = (sees l.start l.end k.lexed.token, k.seen, chosen_no (is_name k.lexed.token) _ _ (no_name t.text.now l.start l.end l.token k.lexed.token c.in_default.not-Name k.lexed.holds) refl);
      means = refl;
      onward = (refl, omega arith);
    }
