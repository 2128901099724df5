use Rattle.std.proofs.Common.{◌*◌, ap, ◌∙◌}
use Rattle.rp_patch.specs.Mixtures.{units_weight}
use Rattle.rp_print.specs.LowestTerms.{lowest_terms}
use Rattle.rp_report.proofs.UnitsWeight.{some_whole}
use Rattle.rp_report.proofs.random.share.Goals as goal

pub lowest_terms-requires-clause-positive : goal.lowest_terms-requires-clause-positive
lowest_terms-requires-clause-positive c =
    some_whole c.args.den c.args.patches.now.total c.from.result c.from-2.result c.requires.fraction c.budgets.ensures.valid.some_units c.from.ensures (c.from-2.ensures ∙ c.total.ensures)

pub returns : goal.returns
returns c =
    let total = c.from-2.ensures ∙ c.total.ensures in
    let den = c.from.ensures in
    let whole = ap (λ d. d * c.from-2.result) den ∙ ap (λ n. c.args.den * n) total in
    c.lowest_terms.ensures ∙ ap (λ n. lowest_terms n (c.from.result * c.from-2.result)) c.weight_of_units.ensures.exact
    ∙ ap (lowest_terms (units_weight c.args.patches.now c.args.weights.now)) whole
