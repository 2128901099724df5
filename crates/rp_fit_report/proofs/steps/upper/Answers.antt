use Rattle.std.proofs.Common.{◌≤◌, ◌^◌, subst}
use Rattle.rp_table.specs.Cost.{cost_of}
use Rattle.rp_table.specs.Tables.{records_of}
use Rattle.rp_fit_report.proofs.Spent.{cost_fits}
use Rattle.rp_fit_report.proofs.steps.upper.Goals as goal

pub lowest_terms-requires-clause-num_fits : goal.lowest_terms-requires-clause-num_fits
lowest_terms-requires-clause-num_fits c =
    let table = c.args.input.now.table.now in
    let spent = c.all_spent-spent.ensures in
    cost_fits (records_of table) (cost_of table) c.args.part.now c.requires spent.few (subst (λ k. k ≤ 2 ^ 60) spent.value spent.small)
