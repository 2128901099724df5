use Rattle.std.proofs.Common.{◌∙◌, ◌++◌, ap, subst}
use Rattle.rp_answers.specs.ReportOrJson.{report_or_json}
use Rattle.rp_answers.specs.TrialLines.{trial_head, verdict_lines}
use Rattle.rp_cost.specs.Report.{IsProductionReport}
use Rattle.rp_run_wide.proofs.FillingLemmas.{same_costs}
use Rattle.rp_run_wide.proofs.laws.nothing_withheld_is_printed_alike.Goals as goal

pub returns-clause-certificates : goal.returns-clause-certificates
returns-clause-certificates c = λ json table stated text none told. told.2 ∙ ap (report_or_json json table) (told.1.same none)

pub returns-clause-costs : goal.returns-clause-costs
returns-clause-costs c = λ tech asked stated text under none told.
    subst (λ bounds. IsProductionReport tech asked bounds text) (same_costs tech asked stated told.0 under none told.1 told.2.cost told.2.cost_given) told.2

pub returns-clause-trials : goal.returns-clause-trials
returns-clause-trials c = λ seed rows goods garp efficiency stated quasilinear text none told.
    told.2 ∙ ap (λ verdict. trial_head seed rows goods ++ verdict_lines garp efficiency verdict quasilinear) (told.1.from_stated.same none)
