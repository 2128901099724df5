-- Observations in evidence that the checker takes are within the limits of reading.
use Rattle.std.proofs.Common.{◌≡◌, ◌<◌, ◌≤◌, ℕ, List, [], Ok, All, arith, length, slice_index, slice_index_or, subst}
use Rattle.std.proofs.lemmas.List.{get_or_default}
use Rattle.rp_agreement.proofs.Lists.{walk_fits}
use Rattle.rp_check_fit.specs.KeptFailure.{GroupsFail, KeptFails}
use Rattle.rp_check_levels.specs.LevelsFailure.{LevelsFail}
use Rattle.rp_check_levels.specs.StepsFailure.{AreStepsFrom, StepsFail}
use Rattle.rp_check_levels.specs.WalksFailure.{WalksFail}
use Rattle.rp_evidence.specs.Preference.{IsStrict, IsWeak}
use Rattle.rp_fit.specs.Groups.{AreOfKind}
use Rattle.rp_fit.specs.declared.kept.Group.{Group}
use Rattle.rp_fit.specs.declared.kept.GroupKind.{GroupKind}
use Rattle.rp_fit.specs.declared.kept.GroupKind.TheVariants.{Cycle, Pairs}
use Rattle.rp_fit.specs.declared.kept.KeptPart.{KeptPart}
use Rattle.rp_fit.specs.declared.levels.LevelsPart.{LevelsPart}
use Rattle.rp_fit.specs.declared.steps.StepsPart.{StepsPart}
use Rattle.rp_fit.specs.declared.weighted.WeightedWalk.{WeightedWalk}
use Rattle.rp_json_entries.specs.Reading.{FitObservations, FitsCount, FitsLong}
use Rattle.rp_json_indices.specs.Limits.{FitsCycle, FitsGroup, FitsKept, FitsLevels, FitsSteps}
use Rattle.rp_limits.specs.declared.table.TheConstants.{RECORDS}
use Rattle.rp_num.specs.Spelled.{FitsWhole}

module _ (n : ℕ) (few : n ≤ RECORDS) where
  pub observed_fit : (list : List ℕ) → ((k : ℕ) → k < length list → slice_index list k < n) → FitObservations list
  observed_fit list observed = λ k d within. omega (arith, few, observed k within, get_or_default list k d 0 within)

  members_fit : (c : ℕ → ℕ → ℕ) (kind : GroupKind) (members : List ℕ) → AreOfKind n c kind members → FitObservations members
  members_fit c Pairs members are = observed_fit members are.observed
  members_fit c Cycle members are = walk_fits n few (IsWeak c) members are.violates.0

  pub groups_observed : (c : ℕ → ℕ → ℕ) (groups : List Group) → GroupsFail n c groups (Ok tt) → All (λ group. FitObservations group.members) groups
  groups_observed c groups found = λ k d within.
      let none : Group = record { weight = 0; kind = Pairs; members = [] } in
      let group = slice_index_or groups k none in
      subst (λ g. FitObservations g.members) (get_or_default groups k none d within) (members_fit c group.kind group.members (found k within).1.0)

  pub walks_observed : (c : ℕ → ℕ → ℕ) (walks : List WeightedWalk) → WalksFail n c walks (Ok tt) → All (λ each. FitObservations each.walk) walks
  walks_observed c walks found = λ k d within.
      let none : WeightedWalk = record { weight = 0; walk = [] } in
      let each = slice_index_or walks k none in
      subst (λ g. FitObservations g.walk) (get_or_default walks k none d within) (walk_fits n few (IsStrict c) each.walk (found k within).1.0.closed)

  steps_observed : (c : ℕ → ℕ → ℕ) (taken : List (List ℕ)) → length taken ≡ n → ((s : ℕ) → s < n → AreStepsFrom n c s (slice_index_or taken s [])) → All FitObservations taken
  steps_observed c taken len each = λ k d within.
      let row = slice_index_or taken k [] in
      subst FitObservations (get_or_default taken k [] d within) (observed_fit row (λ j l. (each k (omega (arith, within, len)) j l).0))

  -- ---- whole parts

  pub kept_within : (c : ℕ → ℕ → ℕ) (part : KeptPart) → KeptFails n c part (Ok tt) → FitsCount part.den → FitsCount part.most → All FitsCount part.ranks → All FitsGroup part.groups → FitsKept part
  kept_within c part (some, (set, (groups_pass, rest))) den most ranks groups = (den, groups, observed_fit part.kept set.1.0, most, ranks)

  pub levels_within : (c : ℕ → ℕ → ℕ) (part : LevelsPart) → LevelsFail n c part (Ok tt) → FitsLong part.den → All FitsCount part.ranks → All FitsCycle part.walks → FitsLevels part
  levels_within c part (some, (at, (walks_pass, rest))) den ranks walks =
      (observed_fit part.at (λ k within. (at.1.1.0 k (omega (arith, within, at.0))).0), walks, den, ranks)

  pub steps_within : (c : ℕ → ℕ → ℕ) (part : StepsPart) → StepsFail n c part (Ok tt) → FitsWhole part.cost → FitsLong part.den → All FitsCount part.ranks → All FitsCycle part.walks → FitsSteps part
  steps_within c part (some, (taken, (cost_is, rest))) cost den ranks walks =
      (cost, walks, den, ranks, steps_observed c part.taken taken.0 taken.1.1.0)
