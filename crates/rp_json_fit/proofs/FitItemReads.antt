-- What is read of an item: no two kinds of items have one value.
use Rattle.std.proofs.Common.{◌≡◌, ◌≢◌, ℕ, [], ◌∷◌, Some, None, refl, sym, ap, ◌∙◌, arith, ◌==◌, if◌then◌else◌}
use Rattle.rp_evidence.specs.declared.garp.Garp.{Garp}
use Rattle.rp_evidence.specs.declared.garp.Garp.TheVariants.{Ranks, Cycle}
use Rattle.rp_evidence.specs.declared.efficiency.Efficiency.{Efficiency}
use Rattle.rp_fit.specs.declared.violations.ViolationsPart.{ViolationsPart}
use Rattle.rp_fit.specs.declared.kept.KeptPart.{KeptPart}
use Rattle.rp_fit.specs.declared.levels.LevelsPart.{LevelsPart}
use Rattle.rp_fit.specs.declared.steps.StepsPart.{StepsPart}
use Rattle.rp_fit.specs.declared.pump.PumpPart.{PumpPart}
use Rattle.rp_fit.specs.declared.quasilinear_level.QuasilinearLevelPart.{QuasilinearLevelPart}
use Rattle.rp_fit.specs.declared.homothetic_level.HomotheticLevelPart.{HomotheticLevelPart}
use Rattle.rp_fit.specs.declared.item.FitItem.{FitItem}
use Rattle.rp_fit.specs.declared.item.FitItem.TheVariants.{Violations as ViolationsItem, Efficiency as EfficiencyItem, Kept as KeptItem, Levels as LevelsItem, Steps as StepsItem, Pump as PumpItem, QuasilinearLevel as QuasilinearLevelItem, HomotheticLevel as HomotheticLevelItem}
use Rattle.serde_json.specs.Data.{Data, Members, member, no_members, object, string}
use Rattle.rp_json_tests.specs.EfficiencyValue.{efficiency_value}
use Rattle.rp_json_indices.specs.ViolationsValue.{violations_value}
use Rattle.rp_json_indices.specs.KeptValue.{kept_value}
use Rattle.rp_json_indices.specs.LevelsValue.{levels_value}
use Rattle.rp_json_indices.specs.StepsValue.{steps_value}
use Rattle.rp_json_indices.specs.PumpValue.{pump_value}
use Rattle.rp_json_indices.specs.QuasilinearLevelValue.{quasilinear_level_value}
use Rattle.rp_json_indices.specs.HomotheticLevelValue.{homothetic_level_value}
use Rattle.rp_json_tests.specs.Limits.{FitsEfficiency}
use Rattle.rp_json_indices.specs.Limits.{FitsViolations, FitsKept, FitsLevels, FitsSteps, FitsPump, FitsQuasilinearLevel, FitsHomotheticLevel}
use Rattle.rp_json_fit.specs.FitLimits.{FitsItem}
use Rattle.rp_json_fit.specs.FitValue.{fit_item_value}
use Rattle.rp_json_entries.specs.Reading.{IsFound}

-- the first letter of the name in the member `item`, which is the only name that begins with i
abbrev first_letter_or : ℕ → Data → ℕ
first_letter_or other (string (letter ∷ letters)) = letter
first_letter_or other _ = other

abbrev letter_in : Members → ℕ
letter_in no_members = 0
letter_in (member [] d ms) = letter_in ms
letter_in (member (k ∷ name) d ms) = if k == 105 then first_letter_or (letter_in ms) d else letter_in ms

abbrev letter : Data → ℕ
letter (object ms) = letter_in ms
letter _ = 0

-- the first letter of an item's name
abbrev letter_of : FitItem → ℕ
letter_of (ViolationsItem part) = 118
letter_of (EfficiencyItem part) = 101
letter_of (KeptItem part) = 107
letter_of (LevelsItem part) = 108
letter_of (StepsItem part) = 115
letter_of (PumpItem part) = 112
letter_of (QuasilinearLevelItem part) = 113
letter_of (HomotheticLevelItem part) = 104

efficiency_letter : (v : Efficiency) → letter (efficiency_value v) ≡ 101
efficiency_letter v = go v.at
  where
    go : (at : Garp) → letter (efficiency_value (record { level = v.level; below = v.below; above = v.above; at = at })) ≡ 101
    go (Ranks ranks) = refl
    go (Cycle walk) = refl

item_letter : (x : FitItem) → letter (fit_item_value x) ≡ letter_of x
item_letter (ViolationsItem part) = refl
item_letter (EfficiencyItem part) = efficiency_letter part
item_letter (KeptItem part) = refl
item_letter (LevelsItem part) = refl
item_letter (StepsItem part) = refl
item_letter (PumpItem part) = refl
item_letter (QuasilinearLevelItem part) = refl
item_letter (HomotheticLevelItem part) = refl

-- items of one value have names of one letter
unlike : (x y : FitItem) → fit_item_value x ≡ fit_item_value y → letter_of x ≢ letter_of y → ⊥
unlike x y e other = other (sym (item_letter x) ∙ ap letter e ∙ item_letter y)

pub found_violations : (d : Data) (v : ViolationsPart) → IsFound violations_value FitsViolations d (Some v) → IsFound fit_item_value FitsItem d (Some (ViolationsItem v))
found_violations d v r = (r.0, r.1, only)
  where
    only : (y : FitItem) → FitsItem y → fit_item_value y ≡ d → y ≡ ViolationsItem v
    only (ViolationsItem w) h e = ap ViolationsItem (r.2 w h e)
    only (EfficiencyItem w) h e = absurd (unlike (EfficiencyItem w) (ViolationsItem v) (e ∙ sym r.0) (λ q. omega (arith, q)))
    only (KeptItem w) h e = absurd (unlike (KeptItem w) (ViolationsItem v) (e ∙ sym r.0) (λ q. omega (arith, q)))
    only (LevelsItem w) h e = absurd (unlike (LevelsItem w) (ViolationsItem v) (e ∙ sym r.0) (λ q. omega (arith, q)))
    only (StepsItem w) h e = absurd (unlike (StepsItem w) (ViolationsItem v) (e ∙ sym r.0) (λ q. omega (arith, q)))
    only (PumpItem w) h e = absurd (unlike (PumpItem w) (ViolationsItem v) (e ∙ sym r.0) (λ q. omega (arith, q)))
    only (QuasilinearLevelItem w) h e = absurd (unlike (QuasilinearLevelItem w) (ViolationsItem v) (e ∙ sym r.0) (λ q. omega (arith, q)))
    only (HomotheticLevelItem w) h e = absurd (unlike (HomotheticLevelItem w) (ViolationsItem v) (e ∙ sym r.0) (λ q. omega (arith, q)))

pub found_efficiency : (d : Data) (v : Efficiency) → IsFound efficiency_value FitsEfficiency d (Some v) → IsFound fit_item_value FitsItem d (Some (EfficiencyItem v))
found_efficiency d v r = (r.0, r.1, only)
  where
    only : (y : FitItem) → FitsItem y → fit_item_value y ≡ d → y ≡ EfficiencyItem v
    only (ViolationsItem w) h e = absurd (unlike (ViolationsItem w) (EfficiencyItem v) (e ∙ sym r.0) (λ q. omega (arith, q)))
    only (EfficiencyItem w) h e = ap EfficiencyItem (r.2 w h e)
    only (KeptItem w) h e = absurd (unlike (KeptItem w) (EfficiencyItem v) (e ∙ sym r.0) (λ q. omega (arith, q)))
    only (LevelsItem w) h e = absurd (unlike (LevelsItem w) (EfficiencyItem v) (e ∙ sym r.0) (λ q. omega (arith, q)))
    only (StepsItem w) h e = absurd (unlike (StepsItem w) (EfficiencyItem v) (e ∙ sym r.0) (λ q. omega (arith, q)))
    only (PumpItem w) h e = absurd (unlike (PumpItem w) (EfficiencyItem v) (e ∙ sym r.0) (λ q. omega (arith, q)))
    only (QuasilinearLevelItem w) h e = absurd (unlike (QuasilinearLevelItem w) (EfficiencyItem v) (e ∙ sym r.0) (λ q. omega (arith, q)))
    only (HomotheticLevelItem w) h e = absurd (unlike (HomotheticLevelItem w) (EfficiencyItem v) (e ∙ sym r.0) (λ q. omega (arith, q)))

pub found_kept : (d : Data) (v : KeptPart) → IsFound kept_value FitsKept d (Some v) → IsFound fit_item_value FitsItem d (Some (KeptItem v))
found_kept d v r = (r.0, r.1, only)
  where
    only : (y : FitItem) → FitsItem y → fit_item_value y ≡ d → y ≡ KeptItem v
    only (ViolationsItem w) h e = absurd (unlike (ViolationsItem w) (KeptItem v) (e ∙ sym r.0) (λ q. omega (arith, q)))
    only (EfficiencyItem w) h e = absurd (unlike (EfficiencyItem w) (KeptItem v) (e ∙ sym r.0) (λ q. omega (arith, q)))
    only (KeptItem w) h e = ap KeptItem (r.2 w h e)
    only (LevelsItem w) h e = absurd (unlike (LevelsItem w) (KeptItem v) (e ∙ sym r.0) (λ q. omega (arith, q)))
    only (StepsItem w) h e = absurd (unlike (StepsItem w) (KeptItem v) (e ∙ sym r.0) (λ q. omega (arith, q)))
    only (PumpItem w) h e = absurd (unlike (PumpItem w) (KeptItem v) (e ∙ sym r.0) (λ q. omega (arith, q)))
    only (QuasilinearLevelItem w) h e = absurd (unlike (QuasilinearLevelItem w) (KeptItem v) (e ∙ sym r.0) (λ q. omega (arith, q)))
    only (HomotheticLevelItem w) h e = absurd (unlike (HomotheticLevelItem w) (KeptItem v) (e ∙ sym r.0) (λ q. omega (arith, q)))

pub found_levels : (d : Data) (v : LevelsPart) → IsFound levels_value FitsLevels d (Some v) → IsFound fit_item_value FitsItem d (Some (LevelsItem v))
found_levels d v r = (r.0, r.1, only)
  where
    only : (y : FitItem) → FitsItem y → fit_item_value y ≡ d → y ≡ LevelsItem v
    only (ViolationsItem w) h e = absurd (unlike (ViolationsItem w) (LevelsItem v) (e ∙ sym r.0) (λ q. omega (arith, q)))
    only (EfficiencyItem w) h e = absurd (unlike (EfficiencyItem w) (LevelsItem v) (e ∙ sym r.0) (λ q. omega (arith, q)))
    only (KeptItem w) h e = absurd (unlike (KeptItem w) (LevelsItem v) (e ∙ sym r.0) (λ q. omega (arith, q)))
    only (LevelsItem w) h e = ap LevelsItem (r.2 w h e)
    only (StepsItem w) h e = absurd (unlike (StepsItem w) (LevelsItem v) (e ∙ sym r.0) (λ q. omega (arith, q)))
    only (PumpItem w) h e = absurd (unlike (PumpItem w) (LevelsItem v) (e ∙ sym r.0) (λ q. omega (arith, q)))
    only (QuasilinearLevelItem w) h e = absurd (unlike (QuasilinearLevelItem w) (LevelsItem v) (e ∙ sym r.0) (λ q. omega (arith, q)))
    only (HomotheticLevelItem w) h e = absurd (unlike (HomotheticLevelItem w) (LevelsItem v) (e ∙ sym r.0) (λ q. omega (arith, q)))

pub found_steps : (d : Data) (v : StepsPart) → IsFound steps_value FitsSteps d (Some v) → IsFound fit_item_value FitsItem d (Some (StepsItem v))
found_steps d v r = (r.0, r.1, only)
  where
    only : (y : FitItem) → FitsItem y → fit_item_value y ≡ d → y ≡ StepsItem v
    only (ViolationsItem w) h e = absurd (unlike (ViolationsItem w) (StepsItem v) (e ∙ sym r.0) (λ q. omega (arith, q)))
    only (EfficiencyItem w) h e = absurd (unlike (EfficiencyItem w) (StepsItem v) (e ∙ sym r.0) (λ q. omega (arith, q)))
    only (KeptItem w) h e = absurd (unlike (KeptItem w) (StepsItem v) (e ∙ sym r.0) (λ q. omega (arith, q)))
    only (LevelsItem w) h e = absurd (unlike (LevelsItem w) (StepsItem v) (e ∙ sym r.0) (λ q. omega (arith, q)))
    only (StepsItem w) h e = ap StepsItem (r.2 w h e)
    only (PumpItem w) h e = absurd (unlike (PumpItem w) (StepsItem v) (e ∙ sym r.0) (λ q. omega (arith, q)))
    only (QuasilinearLevelItem w) h e = absurd (unlike (QuasilinearLevelItem w) (StepsItem v) (e ∙ sym r.0) (λ q. omega (arith, q)))
    only (HomotheticLevelItem w) h e = absurd (unlike (HomotheticLevelItem w) (StepsItem v) (e ∙ sym r.0) (λ q. omega (arith, q)))

pub found_pump : (d : Data) (v : PumpPart) → IsFound pump_value FitsPump d (Some v) → IsFound fit_item_value FitsItem d (Some (PumpItem v))
found_pump d v r = (r.0, r.1, only)
  where
    only : (y : FitItem) → FitsItem y → fit_item_value y ≡ d → y ≡ PumpItem v
    only (ViolationsItem w) h e = absurd (unlike (ViolationsItem w) (PumpItem v) (e ∙ sym r.0) (λ q. omega (arith, q)))
    only (EfficiencyItem w) h e = absurd (unlike (EfficiencyItem w) (PumpItem v) (e ∙ sym r.0) (λ q. omega (arith, q)))
    only (KeptItem w) h e = absurd (unlike (KeptItem w) (PumpItem v) (e ∙ sym r.0) (λ q. omega (arith, q)))
    only (LevelsItem w) h e = absurd (unlike (LevelsItem w) (PumpItem v) (e ∙ sym r.0) (λ q. omega (arith, q)))
    only (StepsItem w) h e = absurd (unlike (StepsItem w) (PumpItem v) (e ∙ sym r.0) (λ q. omega (arith, q)))
    only (PumpItem w) h e = ap PumpItem (r.2 w h e)
    only (QuasilinearLevelItem w) h e = absurd (unlike (QuasilinearLevelItem w) (PumpItem v) (e ∙ sym r.0) (λ q. omega (arith, q)))
    only (HomotheticLevelItem w) h e = absurd (unlike (HomotheticLevelItem w) (PumpItem v) (e ∙ sym r.0) (λ q. omega (arith, q)))

pub found_quasilinear_level : (d : Data) (v : QuasilinearLevelPart) → IsFound quasilinear_level_value FitsQuasilinearLevel d (Some v) → IsFound fit_item_value FitsItem d (Some (QuasilinearLevelItem v))
found_quasilinear_level d v r = (r.0, r.1, only)
  where
    only : (y : FitItem) → FitsItem y → fit_item_value y ≡ d → y ≡ QuasilinearLevelItem v
    only (ViolationsItem w) h e = absurd (unlike (ViolationsItem w) (QuasilinearLevelItem v) (e ∙ sym r.0) (λ q. omega (arith, q)))
    only (EfficiencyItem w) h e = absurd (unlike (EfficiencyItem w) (QuasilinearLevelItem v) (e ∙ sym r.0) (λ q. omega (arith, q)))
    only (KeptItem w) h e = absurd (unlike (KeptItem w) (QuasilinearLevelItem v) (e ∙ sym r.0) (λ q. omega (arith, q)))
    only (LevelsItem w) h e = absurd (unlike (LevelsItem w) (QuasilinearLevelItem v) (e ∙ sym r.0) (λ q. omega (arith, q)))
    only (StepsItem w) h e = absurd (unlike (StepsItem w) (QuasilinearLevelItem v) (e ∙ sym r.0) (λ q. omega (arith, q)))
    only (PumpItem w) h e = absurd (unlike (PumpItem w) (QuasilinearLevelItem v) (e ∙ sym r.0) (λ q. omega (arith, q)))
    only (QuasilinearLevelItem w) h e = ap QuasilinearLevelItem (r.2 w h e)
    only (HomotheticLevelItem w) h e = absurd (unlike (HomotheticLevelItem w) (QuasilinearLevelItem v) (e ∙ sym r.0) (λ q. omega (arith, q)))

pub found_homothetic_level : (d : Data) (v : HomotheticLevelPart) → IsFound homothetic_level_value FitsHomotheticLevel d (Some v) → IsFound fit_item_value FitsItem d (Some (HomotheticLevelItem v))
found_homothetic_level d v r = (r.0, r.1, only)
  where
    only : (y : FitItem) → FitsItem y → fit_item_value y ≡ d → y ≡ HomotheticLevelItem v
    only (ViolationsItem w) h e = absurd (unlike (ViolationsItem w) (HomotheticLevelItem v) (e ∙ sym r.0) (λ q. omega (arith, q)))
    only (EfficiencyItem w) h e = absurd (unlike (EfficiencyItem w) (HomotheticLevelItem v) (e ∙ sym r.0) (λ q. omega (arith, q)))
    only (KeptItem w) h e = absurd (unlike (KeptItem w) (HomotheticLevelItem v) (e ∙ sym r.0) (λ q. omega (arith, q)))
    only (LevelsItem w) h e = absurd (unlike (LevelsItem w) (HomotheticLevelItem v) (e ∙ sym r.0) (λ q. omega (arith, q)))
    only (StepsItem w) h e = absurd (unlike (StepsItem w) (HomotheticLevelItem v) (e ∙ sym r.0) (λ q. omega (arith, q)))
    only (PumpItem w) h e = absurd (unlike (PumpItem w) (HomotheticLevelItem v) (e ∙ sym r.0) (λ q. omega (arith, q)))
    only (QuasilinearLevelItem w) h e = absurd (unlike (QuasilinearLevelItem w) (HomotheticLevelItem v) (e ∙ sym r.0) (λ q. omega (arith, q)))
    only (HomotheticLevelItem w) h e = ap HomotheticLevelItem (r.2 w h e)

pub no_item : (d : Data) → IsFound violations_value FitsViolations d None → IsFound efficiency_value FitsEfficiency d None → IsFound kept_value FitsKept d None → IsFound levels_value FitsLevels d None → IsFound steps_value FitsSteps d None → IsFound pump_value FitsPump d None → IsFound quasilinear_level_value FitsQuasilinearLevel d None → IsFound homothetic_level_value FitsHomotheticLevel d None → IsFound fit_item_value FitsItem d None
no_item d no_violations no_efficiency no_kept no_levels no_steps no_pump no_quasilinear_level no_homothetic_level (ViolationsItem w) h e = no_violations w h e
no_item d no_violations no_efficiency no_kept no_levels no_steps no_pump no_quasilinear_level no_homothetic_level (EfficiencyItem w) h e = no_efficiency w h e
no_item d no_violations no_efficiency no_kept no_levels no_steps no_pump no_quasilinear_level no_homothetic_level (KeptItem w) h e = no_kept w h e
no_item d no_violations no_efficiency no_kept no_levels no_steps no_pump no_quasilinear_level no_homothetic_level (LevelsItem w) h e = no_levels w h e
no_item d no_violations no_efficiency no_kept no_levels no_steps no_pump no_quasilinear_level no_homothetic_level (StepsItem w) h e = no_steps w h e
no_item d no_violations no_efficiency no_kept no_levels no_steps no_pump no_quasilinear_level no_homothetic_level (PumpItem w) h e = no_pump w h e
no_item d no_violations no_efficiency no_kept no_levels no_steps no_pump no_quasilinear_level no_homothetic_level (QuasilinearLevelItem w) h e = no_quasilinear_level w h e
no_item d no_violations no_efficiency no_kept no_levels no_steps no_pump no_quasilinear_level no_homothetic_level (HomotheticLevelItem w) h e = no_homothetic_level w h e
