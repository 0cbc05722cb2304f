use Rattle.std.proofs.Common.{rules, ◌<◌, length, get_or, sym, subst}
use Rattle.text.proofs.Handed.{handed_on}
use Rattle.text.specs.TokenGrammar.{NumberGoesOn}
use Rattle.text.specs.declared.language.Language.TheVariants.{Graphql}
use Rattle.text.proofs.LexNumber.{scan_refused}
use Rattle.text.proofs.LexTold.{found_here, none_here}
use Rattle.text.proofs.LexGraphql.{number_here, no_number, number_goes_on}
use Rattle.text.proofs.graphql.numeral.Goals.{In_default, in_default-via-in-None-1, in_default-via-in-Some+else-barred_after_number}
use Rattle.text.proofs.graphql.numeral.Goals as goal

pub returns-in_err-number : goal.returns-in_err-number
returns-in_err-number c =
    rw (handed_on c.from_residual.ensures.1)
    (record {
      found = scan_refused Graphql c.args.text.now c.args.start (no_number c.args.text.now c.args.start c.requires.0 c.requires.1) _ c.in_err-number.ensures;
      placed = tt;
    })

pub returns : goal.returns
returns c =
    let t = c.in_ok-number.ensures in
    let b = c.in-Some.ensures.lookup in
    let g = c.if-barred_after_number.ensures in
    none_here Graphql c.args.text.now c.args.start (number_goes_on c.args.text.now c.args.start c.in_ok-number.number.end t.1.0 t.1.1 b.3.0 (subst NumberGoesOn (b.3.1 0) g))

stops : (c : In_default) → c.in_ok-number.number.end < length c.args.text.now → NumberGoesOn (get_or c.args.text.now c.in_ok-number.number.end 0) → ⊥
stops c = elim c.in_default.branch [ in_default-via-in-None-1 w ↦ λ h. absurd (search rules) | in_default-via-in-Some+else-barred_after_number w ↦ λ h g. w.if-barred_after_number.ensures (subst NumberGoesOn (sym (w.in-Some.ensures.lookup.3.1 0)) g) ]

pub returns-2 : goal.returns-2
returns-2 c =
    let t = c.in_ok-number.ensures in
    found_here Graphql c.args.text.now c.args.start c.in_ok-number.number t.0 (number_here c.args.text.now c.args.start c.in_ok-number.number.end t.1.0 _ t.1.1 (stops c) t.1.2) t.1.1.some
