-- What `trial` prints: the verdicts on the trial table of a seed, without their evidence (this program's own text).
-- They are those on the generalized axiom of revealed preference (Varian 1982), on the efficiency index (Afriat
-- 1973), of the homothetic test (Varian 1983) and of the quasilinear test.
use Rattle.std.specs.Prelude.{ℕ, All, List, [], ◌∷◌}
use Rattle.rp_evidence.specs.Input.{input_of_table}
use Rattle.rp_evidence.specs.Proves.{Proves}
use Rattle.rp_evidence.specs.declared.certificate.Item.TheVariants.{Garp as GarpItem}
use Rattle.rp_evidence.specs.declared.certificate.Item.TheVariants.{Efficiency as EfficiencyItem}
use Rattle.rp_evidence.specs.declared.certificate.Item.TheVariants.{Homothetic as HomotheticItem, Quasi as QuasiItem}
use Rattle.rp_evidence.specs.declared.efficiency.Efficiency.{Efficiency}
use Rattle.rp_evidence.specs.declared.garp.Garp.{Garp}
use Rattle.rp_evidence.specs.declared.homothetic.Homothetic.{Homothetic}
use Rattle.rp_evidence.specs.declared.quasilinear.Quasi.{Quasi}
use Rattle.rp_effic.specs.EfficiencyVerdict.{IsEfficiencyVerdict}
use Rattle.rp_garp.specs.GarpVerdict.{IsGarpVerdict}
use Rattle.rp_homo.specs.HomotheticVerdict.{IsHomotheticVerdict}
use Rattle.rp_quasi.specs.QuasilinearVerdict.{IsQuasilinearVerdict}
use Rattle.rp_people.specs.Says.{Says}
use Rattle.rp_table.specs.Cost.{cost_of}
use Rattle.rp_table.specs.Tables.{Observations, records_of}
use Rattle.rp_answers.specs.Printed.{Printed, as_stated}
use Rattle.rp_answers.specs.TrialTable.{trial_of}

-- the verdicts of a table without Afriat's numbers: each is true, as it is given, and says of people what such a
-- verdict says
pub record AreVerdicts (table : Observations) (garp : Garp) (efficiency : Efficiency) (homothetic : Homothetic)
    (quasilinear : Quasi) : Type 0 where
  pub garp_proves : Proves (input_of_table table) (GarpItem garp)
  pub garp_given : IsGarpVerdict (records_of table) (cost_of table) garp
  pub efficiency_proves : Proves (input_of_table table) (EfficiencyItem efficiency)
  pub efficiency_given : IsEfficiencyVerdict (records_of table) (cost_of table) efficiency
  pub homothetic_proves : Proves (input_of_table table) (HomotheticItem homothetic)
  pub homothetic_given : IsHomotheticVerdict (records_of table) (cost_of table) homothetic
  pub quasilinear_proves : Proves (input_of_table table) (QuasiItem quasilinear)
  pub quasilinear_given : IsQuasilinearVerdict (records_of table) (cost_of table) quasilinear
  pub says : All (Says (input_of_table table))
      (GarpItem garp ∷ EfficiencyItem efficiency ∷ HomotheticItem homothetic ∷ QuasiItem quasilinear ∷ [])

-- what an edition of the program prints of the trial table of a seed: each verdict is true of its table and as it is
-- given
pub record IsTrialTextBy (printed : Printed) (seed rows goods : ℕ) (text : List ℕ) : Type 0 where
  pub garp : Garp
  pub efficiency : Efficiency
  pub homothetic : Homothetic
  pub quasilinear : Quasi
  pub verdicts : AreVerdicts (trial_of seed rows goods) garp efficiency homothetic quasilinear
  pub text_is : printed.of_trial seed rows goods garp efficiency homothetic quasilinear text

-- the text of a trial, with its verdicts as they stand
abbrev pub IsTrialText : ℕ → ℕ → ℕ → List ℕ → Type 0
IsTrialText = IsTrialTextBy as_stated
