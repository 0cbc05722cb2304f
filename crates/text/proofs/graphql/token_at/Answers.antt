use Rattle.std.proofs.Common.{ℕ, [], ◌∷◌, refl, sym, ◌∙◌, subst, arith}
use Rattle.text.specs.TokenGrammar.{Punctuator, NumberFirst, NameStart}
use Rattle.text.specs.declared.language.Language.TheVariants.{Graphql}
use Rattle.text.proofs.LexTold.{found_here, end_here as text_end, none_here, spelled_told}
use Rattle.text.proofs.LexGraphql.{end_here, mark_here, spread_here, no_spread, no_token}
use Rattle.text.proofs.graphql.token_at.Goals as goal

pub returns-in_default : goal.returns-in_default
returns-in_default c = rw c.end_at.ensures (text_end Graphql c.args.text.now c.args.start c.requires (end_here c.args.text.now c.args.start c.in_default.ensures.lookup.3 c.requires))

pub returns-in-Some-punctuator : goal.returns-in-Some-punctuator
returns-in-Some-punctuator c =
    let e = c.in-Some-punctuator.ensures in
    let b = c.in-Some.ensures.lookup.3 in
    let s = subst (λ (k : ℕ). Punctuator k e.0) (b.1 0) e.1 in
    rw c.mark.ensures (found_here Graphql c.args.text.now c.args.start _ refl (mark_here c.args.text.now c.args.start e.0 _ b.0 s e.2) (omega arith))

pub returns-in-46 : goal.returns-in-46
returns-in-46 c =
    let b = c.in-Some.ensures.lookup.3 in
    let q = sym (b.1 0) ∙ c.in-46.is in
    spelled_told Graphql c.args.text.now c.args.start (46 ∷ 46 ∷ 46 ∷ []) _ (omega arith) (spread_here c.args.text.now c.args.start) (no_spread c.args.text.now c.args.start b.0 q) c.spelled.result c.spelled.ensures

pub returns-in_default-byte : goal.returns-in_default-byte
returns-in_default-byte c =
    let b = c.in-Some.ensures.lookup.3 in
    let e = b.1 0 in
    none_here Graphql c.args.text.now c.args.start
    (no_token c.args.text.now c.args.start b.0 (λ m s. c.in_default-punctuator.ensures m (subst (λ (k : ℕ). Punctuator k m) (sym e) s)) (λ n. c.if-begins_name.ensures (subst NameStart (sym e) n)) (λ f. c.if-begins_number.ensures (subst NumberFirst (sym e) f)) (omega arith) (omega arith))
