-- What an edition of the program prints of what was computed, and of words that are no command line, and which choices it
-- answers. Two editions differ in this alone (this program's own).
use Rattle.std.specs.Prelude.{◌≡◌, ℕ, Bool, List, ◌++◌}
use Rattle.rp_table.specs.Tables.{Observations}
use Rattle.rp_evidence.specs.declared.certificate.Certificate.{Certificate}
use Rattle.rp_evidence.specs.declared.efficiency.Efficiency.{Efficiency}
use Rattle.rp_evidence.specs.declared.garp.Garp.{Garp}
use Rattle.rp_evidence.specs.declared.homothetic.Homothetic.{Homothetic}
use Rattle.rp_evidence.specs.declared.quasilinear.Quasi.{Quasi}
use Rattle.rp_cost.specs.AskedOutputs.{AskedOutputs}
use Rattle.rp_cost.specs.Report.{IsProductionReport}
use Rattle.rp_cost.specs.Technology.{Technology}
use Rattle.rp_cost.specs.declared.bounds.CostBounds.{CostBounds}
use Rattle.rp_command_line.specs.Usage.{usage_text}
use Rattle.rp_answers.specs.ReportOrJson.{report_or_json}
use Rattle.rp_answers.specs.TrialLines.{trial_head, verdict_lines}
use Rattle.rp_answers.specs.declared.choice_limits.ChoiceLimits.{ChoiceLimits}
use Rattle.rp_answers.specs.declared.choice_limits.ChoiceLimits.TheVariants.{Listed}

-- of_certificate: the text is what is printed of a certificate on a table, as JSON or as a report
-- of_costs: of a technology, and of the bounds on what each asked output costs
-- of_trial: of the verdicts on the trial table of a seed, with so many records and goods
-- usage: what is told where words are no command line
-- limits: which choices from budgets are answered
pub record Printed : Type 1 where
  pub of_certificate : Bool → Observations → Certificate → List ℕ → Type 0
  pub of_costs : Technology → AskedOutputs → List CostBounds → List ℕ → Type 0
  pub of_trial : ℕ → ℕ → ℕ → Garp → Efficiency → Homothetic → Quasi → List ℕ → Type 0
  pub usage : List ℕ
  pub limits : ChoiceLimits

-- all of it as it stands
abbrev pub as_stated : Printed
as_stated = record {
  of_certificate = λ json table certificate text. text ≡ report_or_json json table certificate;
  of_costs = IsProductionReport;
  of_trial = λ seed rows goods garp efficiency homothetic quasilinear text.
      text ≡ trial_head seed rows goods ++ verdict_lines garp efficiency homothetic quasilinear;
  usage = usage_text;
  limits = Listed;
}
