use Rattle.std.proofs.Common.{ℕ, List, [], ◌∷◌, ◌++◌, ap, ◌∙◌}
use Rattle.rp_pref.proofs.VerdictLemmas.{counts_of, cycle_proves, ranks_prove}
use Rattle.rp_pref.proofs.verdict.verdict_over.Goals as goal

pub returns-in_ok-ranks-in-None-clause-proves : goal.returns-in_ok-ranks-in-None-clause-proves
returns-in_ok-ranks-in-None-clause-proves g c =
    let p = c.args.preference.now in
    ranks_prove (g.P.Revealed.count p) (g.P.Revealed.weak p) (g.P.Revealed.strict p) c.requires.strict_is_weak c.in_ok-ranks-in-None.ranks
    (counts_of c.args.closure.now (g.P.Revealed.count p) (g.P.Revealed.weak p) c.in_ok-ranks-in-None.ranks c.requires.closed c.in_ok-ranks-in-None.ensures) c.in-None.ensures

pub returns-in_ok-ranks-in-None-clause-given : goal.returns-in_ok-ranks-in-None-clause-given
returns-in_ok-ranks-in-None-clause-given g c =
    let p = c.args.preference.now in
    counts_of c.args.closure.now (g.P.Revealed.count p) (g.P.Revealed.weak p) c.in_ok-ranks-in-None.ranks c.requires.closed c.in_ok-ranks-in-None.ensures

pub returns-in_ok-push-in-Some-clause-proves : goal.returns-in_ok-push-in-Some-clause-proves
returns-in_ok-push-in-Some-clause-proves g c =
    let p = c.args.preference.now in
    let first = c.in-Some.ensures in
    cycle_proves (g.P.Revealed.count p) (g.P.Revealed.weak p) (g.P.Revealed.strict p) c.requires.strict_is_weak
    c.in-Some.s c.in-Some.t c.in_ok-shortest_weak_walk-in-Some.field-0 c.from_vec.result first.first first.second first.related.1 c.in_ok-shortest_weak_walk-in-Some.ensures
    (c.from_vec.ensures ∙ c.in_ok-push-in-Some.ensures.items ∙ ap (λ (xs : List ℕ). xs ++ c.in-Some.s ∷ []) c.into_vec-steps.ensures)
