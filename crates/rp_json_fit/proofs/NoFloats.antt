-- The value of a certificate has no float.
use Rattle.std.proofs.Common.{◌≡◌, ℕ, List, [], ◌∷◌, false, refl}
use Rattle.rp_evidence.specs.declared.efficiency.Efficiency.{Efficiency}
use Rattle.rp_evidence.specs.declared.garp.Garp.{Garp}
use Rattle.rp_evidence.specs.declared.garp.Garp.TheVariants.{Ranks, Cycle}
use Rattle.rp_fit.specs.declared.item.FitItem.{FitItem}
use Rattle.rp_fit.specs.declared.item.FitItem.TheVariants.{Violations as ViolationsItem, Efficiency as EfficiencyItem, Kept as KeptItem, Levels as LevelsItem, Steps as StepsItem, Pump as PumpItem, QuasilinearLevel as QuasilinearLevelItem, HomotheticLevel as HomotheticLevelItem}
use Rattle.rp_fit.specs.declared.kept.Group.{Group}
use Rattle.rp_fit.specs.declared.kept.KeptPart.{KeptPart}
use Rattle.rp_fit.specs.declared.levels.Lack.{Lack}
use Rattle.rp_fit.specs.declared.levels.Lack.TheVariants.{Mean, Squares}
use Rattle.rp_fit.specs.declared.levels.LevelsPart.{LevelsPart}
use Rattle.rp_fit.specs.declared.steps.StepsPart.{StepsPart}
use Rattle.rp_fit.specs.declared.weighted.WeightedWalk.{WeightedWalk}
use Rattle.serde_json.specs.Data.{Data, Members}
use Rattle.serde_json.specs.Written.{has_float, members_have_float}
use Rattle.rp_json_entries.specs.Values.{count_value, list_value, natural_value, observation_value, observations_value, signed_value}
use Rattle.rp_json_tests.specs.EfficiencyValue.{at_members, below_members, efficiency_value}
use Rattle.rp_json_indices.specs.CycleValue.{cycle_value}
use Rattle.rp_json_indices.specs.GroupValue.{group_value}
use Rattle.rp_json_indices.specs.KeptValue.{kept_value}
use Rattle.rp_json_indices.specs.LevelsValue.{levels_value}
use Rattle.rp_json_indices.specs.MeasureValue.{measure_value}
use Rattle.rp_json_indices.specs.PlacesValue.{place_numbers}
use Rattle.rp_json_indices.specs.StepsValue.{steps_value}
use Rattle.rp_json_fit.specs.FitValue.{fit_item_value, fit_value}

-- nor has a list of values without one
no_list : {X : Type 0} (value_of : X → Data) → ((x : X) → has_float (value_of x) ≡ false) → (xs : List X) → has_float (list_value value_of xs) ≡ false
no_list value_of none [] = refl
no_list value_of none (x ∷ xs) = rw (none x) (no_list value_of none xs)

no_counts : (xs : List ℕ) → has_float (list_value count_value xs) ≡ false
no_counts xs = no_list count_value (λ _. refl) xs

no_naturals : (xs : List ℕ) → has_float (list_value natural_value xs) ≡ false
no_naturals xs = no_list natural_value (λ _. refl) xs

no_observations : (xs : List ℕ) → has_float (list_value observation_value xs) ≡ false
no_observations xs = no_list observation_value (λ _. refl) xs

at_has_none : (at : Garp) (others : Members) → members_have_float others ≡ false → members_have_float (at_members at others) ≡ false
at_has_none (Ranks ranks) others none = rw (no_counts ranks) none
at_has_none (Cycle cycle) others none = rw (no_observations cycle) none

efficiency_has_none : (v : Efficiency) → has_float (efficiency_value v) ≡ false
efficiency_has_none v = rw (no_observations v.above) (at_has_none v.at (below_members v) (rw (no_counts v.below) refl))

cycle_has_none : (each : WeightedWalk) → has_float (cycle_value each) ≡ false
cycle_has_none each = rw (no_observations each.walk) refl

no_cycles : (xs : List WeightedWalk) → has_float (list_value cycle_value xs) ≡ false
no_cycles xs = no_list cycle_value cycle_has_none xs

group_has_none : (group : Group) → has_float (group_value group) ≡ false
group_has_none group = rw (no_observations group.members) refl

kept_has_none : (v : KeptPart) → has_float (kept_value v) ≡ false
kept_has_none v = rw (no_list group_value group_has_none v.groups, no_observations v.kept, no_counts v.ranks) refl

measure_has_none : (lack : Lack) → has_float (measure_value lack) ≡ false
measure_has_none Mean = refl
measure_has_none Squares = refl

levels_has_none : (v : LevelsPart) → has_float (levels_value v) ≡ false
levels_has_none v = rw (no_counts (place_numbers 0 v.at), no_cycles v.walks, measure_has_none v.lack, no_counts v.ranks) refl

steps_has_none : (v : StepsPart) → has_float (steps_value v) ≡ false
steps_has_none v = rw (no_cycles v.walks, no_counts v.ranks, no_list observations_value no_observations v.taken) refl

item_has_none : (i : FitItem) → has_float (fit_item_value i) ≡ false
item_has_none (ViolationsItem v) = refl
item_has_none (EfficiencyItem v) = efficiency_has_none v
item_has_none (KeptItem v) = kept_has_none v
item_has_none (LevelsItem v) = levels_has_none v
item_has_none (StepsItem v) = steps_has_none v
item_has_none (PumpItem v) = rw (no_observations v.cycle, no_list signed_value (λ _. refl) v.values) refl
item_has_none (QuasilinearLevelItem v) = rw (no_observations v.walk, no_list signed_value (λ _. refl) v.values) refl
item_has_none (HomotheticLevelItem v) = rw (no_observations v.walk, no_naturals v.values) refl

pub certificate_has_none : (items : List FitItem) → has_float (fit_value items) ≡ false
certificate_has_none items = rw (no_list fit_item_value item_has_none items) refl
