-- An item that is found nothing wrong with proves what it says.
use Rattle.std.proofs.Common.{◌≡◌, ◌<◌, ℕ, List, length, Result, Ok, slice_index_or, subst}
use Rattle.std.specs.Prelude.{IfOk}
use Rattle.std.proofs.lemmas.List.{get_or_read}
use Rattle.rp_evidence.specs.Input.{TableInput}
use Rattle.rp_evidence.specs.declared.failure.Failure.{Failure}
use Rattle.rp_clauses.proofs.SoundTests.{efficiency_proves}
use Rattle.rp_check_fit.proofs.CountedPairs.{counts_prove}
use Rattle.rp_check_fit.proofs.KeptSound.{kept_proves}
use Rattle.rp_check_levels.proofs.Sound.{levels_prove_of_costs, steps_prove}
use Rattle.rp_check_walk_levels.proofs.LevelSound.{homothetic_level_proves, quasilinear_level_proves}
use Rattle.rp_check_walk_levels.proofs.PumpSound.{pump_proves}
use Rattle.rp_fit.specs.FitItems.{ProvesFit}
use Rattle.rp_fit.specs.declared.item.FitItem.{FitItem}
use Rattle.rp_fit.specs.declared.item.FitItem.TheVariants.{Efficiency, HomotheticLevel, Kept, Levels, Pump, QuasilinearLevel, Steps, Violations}
use Rattle.rp_check_goodness.specs.FitVerdict.{FitItemFails, FitItemFailsAt}

module _ (input : TableInput) (positive : (s t : ℕ) → s < input.n → t < input.n → 0 < input.cost s t) where
  pub item_proves : (item : FitItem) → FitItemFails input item (Ok tt) → ProvesFit input item
  item_proves (Violations part) found = counts_prove input part (Ok tt) found
  item_proves (Efficiency evidence) found = efficiency_proves input.n input.cost (λ s s_in. positive s s s_in s_in) evidence found
  item_proves (Kept part) found = kept_proves input.n input.cost part (Ok tt) found
  item_proves (Levels part) found = levels_prove_of_costs input.n input.cost positive part (Ok tt) found
  item_proves (Steps part) found = steps_prove input.n input.cost part (Ok tt) found
  item_proves (Pump part) found = pump_proves input.n input.cost part (Ok tt) found
  item_proves (QuasilinearLevel part) found = quasilinear_level_proves input.n input.cost part (Ok tt) found
  item_proves (HomotheticLevel part) found = homothetic_level_proves input.n input.cost part (Ok tt) found

pub at_place : (input : TableInput) (items : List FitItem) (k : ℕ) (item : FitItem) → k < length items → item ≡ slice_index_or items k item → (r : Result (Unit {0}) Failure) → FitItemFails input item r → FitItemFailsAt input items k r
at_place input items k item within is r found other = subst (λ x. FitItemFails input x r) (get_or_read items k item within is other) found
