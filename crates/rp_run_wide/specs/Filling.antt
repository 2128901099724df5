-- What the wider edition of the program prints: what was computed, with what is withheld filled where evidence is found
-- (this project's own).
use Rattle.std.specs.Prelude.{◌≡◌, ◌++◌, List, codes}
use Rattle.rp_answers.specs.Printed.{Printed}
use Rattle.rp_answers.specs.ReportOrJson.{report_or_json}
use Rattle.rp_answers.specs.TrialLines.{trial_head, verdict_lines}
use Rattle.rp_answers.specs.TrialTable.{trial_of}
use Rattle.rp_answers.specs.declared.choice_limits.ChoiceLimits.TheVariants.{Unlisted}
use Rattle.rp_command_line.specs.Usage.{usage_text_of}
use Rattle.rp_cost.specs.Report.{IsProductionReport}
use Rattle.rp_cost.specs.declared.bounds.CostBounds.{CostBounds}
use Rattle.rp_evidence.specs.Input.{input_of_table}
use Rattle.rp_evidence.specs.declared.certificate.Certificate.{Certificate}
use Rattle.rp_evidence.specs.declared.homothetic.Homothetic.{Homothetic}
use Rattle.rp_filled.specs.Filled.{IsFilledCertificate, IsFilledVerdict}
use Rattle.rp_filled.specs.FilledCosts.{AreFilledBounds}

-- the report or the JSON of the certificate filled, the report of the bounds filled, the lines of the verdicts with the
-- homothetic one filled; the usage text under the program's own name; and choices whose types need not be listed
abbrev pub as_filled : Printed
as_filled = record {
  of_certificate = λ json table stated text. (filled : Certificate)
      × IsFilledCertificate (input_of_table table) stated filled × (text ≡ report_or_json json table filled);
  of_costs = λ tech asked stated text. (filled : List CostBounds)
      × AreFilledBounds tech asked stated filled × IsProductionReport tech asked filled text;
  of_trial = λ seed rows goods garp efficiency stated quasilinear text. (filled : Homothetic)
      × IsFilledVerdict (input_of_table (trial_of seed rows goods)) stated filled
      × (text ≡ trial_head seed rows goods ++ verdict_lines garp efficiency filled quasilinear);
  usage = usage_text_of (codes "rp-wide");
  limits = Unlisted;
}
