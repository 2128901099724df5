-- Walks, counts and lists of observations, each of which is one of few.
use Rattle.std.proofs.Common.{◌<◌, ◌≤◌, ℕ, List, [], ◌∷◌, length, All, Contains, arith, get_or}
use Rattle.std.specs.List.Sorted.{IsStrictlyIncreasing}
use Rattle.std.proofs.lemmas.List.{get_or_default}
use Rattle.std.proofs.lemmas.Map.Keys.{sorted_from_strictly_increasing}
use Rattle.std.proofs.lemmas.Map.Views.{length-le_from_below}
use Rattle.rp_evidence.specs.Count.{AreCounts, IsNumberOf}
use Rattle.rp_evidence.specs.Walk.{IsClosedWalk}
use Rattle.rp_evidence.proofs.Enumerations.{enumerates_few}
use Rattle.rp_evidence.proofs.Places.{below_at}
use Rattle.rp_json_entries.specs.Reading.{FitObservations, FitsCount}
use Rattle.rp_limits.specs.declared.table.TheConstants.{RECORDS}

module _ (n : ℕ) (few : n ≤ RECORDS) where
  pub walk_fits : (step : ℕ → ℕ → Type 0) (walk : List ℕ) → IsClosedWalk n step walk → FitObservations walk
  walk_fits step [] (s, leads, some) = absurd leads
  walk_fits step (x ∷ w) (s, (is, leads), some) = λ k d within. omega (arith, few, below_at n step x s w leads k within, get_or_default (x ∷ w) k d 0 within)

  number_few : (P : ℕ → Type 0) (k : ℕ) → IsNumberOf n P k → k ≤ n
  number_few P k (those, lists, len) = omega (arith, enumerates_few n P those lists, len)

  pub counts_fit : (step : ℕ → ℕ → Type 0) (counts : List ℕ) → AreCounts n step counts → All FitsCount counts
  counts_fit step counts are k d within =
      omega (arith, few, number_few _ _ (are.each k (omega (arith, within, are.one_each))), get_or_default counts k d 0 within)

  -- what a list holds, where it holds only observations
  held : (list : List ℕ) (P : ℕ → Type 0) → ((t : ℕ) → Contains list t → (t < n) × P t) → All (λ t. t < n) list
  held list P only k d within = (only (get_or list k d) (k, within, get_or_default list k (get_or list k d) d within)).0

  pub listed_fit : (list : List ℕ) (P : ℕ → Type 0) → ((t : ℕ) → Contains list t → (t < n) × P t) → FitObservations list
  listed_fit list P only k d within = omega (arith, few, held list P only k d within)

  pub rising_few : (list : List ℕ) (P : ℕ → Type 0) → IsStrictlyIncreasing list → ((t : ℕ) → Contains list t → (t < n) × P t) → length list ≤ n
  rising_few list P rising only = length-le_from_below n list (sorted_from_strictly_increasing list rising) (held list P only)
