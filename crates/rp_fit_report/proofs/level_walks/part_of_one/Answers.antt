use Rattle.std.proofs.Common.{ap, ◌∙◌, ◌^◌}
use Rattle.rp_print.specs.LowestTerms.{lowest_terms}
use Rattle.rp_fit_report.proofs.level_walks.part_of_one.Goals as goal

pub returns : goal.returns
returns c = c.lowest_terms.ensures ∙ ap (λ k. lowest_terms k (2 ^ 40)) c.from.ensures
