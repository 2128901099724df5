-- The verdict of the quasilinear test, with its evidence (cyclical monotonicity: Rockafellar 1970, section 24).
use Rattle.std.specs.Prelude.{◌≡◌, ℕ, ◌^◌, ◌<◌, ℤ, pos, neg_ℤ, ◌<ℤ◌, ◌≤ℤ◌, ◌⊎◌, List, length, slice_index_or}
use Rattle.rp_walk.specs.ExactTotal.{ExactTotal}
use Rattle.rp_walk.specs.RoundWalk.{IsCutFromRounds}
use Rattle.rp_walk.specs.Outcome.{IsBreakingCycle}
use Rattle.rp_walk.specs.Settled.{NoPairBreaks}
use Rattle.rp_walk.specs.Sums.{sums}
use Rattle.rp_walk.specs.Walk.{IsSimpleCycle}
use Rattle.rp_evidence.specs.Quasilinear.{IsLeastSum, IsNegativeCycle, MeetsQuasilinearTest, step_sum}
use Rattle.rp_evidence.specs.declared.quasilinear.Quasi.{Quasi}
use Rattle.rp_evidence.specs.declared.quasilinear.Quasi.TheVariants.{Values, Cycle}

-- A least sum of a table is at most 0, the sum of the walk of no step, and stays above -2^100.
pub record IsLimitedSum (x : ℤ) : Type 0 where
  pub at_most_zero : x ≤ℤ pos 0
  pub above : neg_ℤ (pos (2 ^ 100)) <ℤ x

-- The values are the least sums over all walks, by the observation where they end.
pub record AreLeastSums (n : ℕ) (c : ℕ → ℕ → ℕ) (values : List ℤ) : Type 0 where
  pub one_each : length values ≡ n
  pub least : (s : ℕ) → s < n → IsLeastSum n c s (slice_index_or values s (pos 0))
  pub limits : (s : ℕ) → s < n → IsLimitedSum (slice_index_or values s (pos 0))

-- A closed walk with a negative sum that goes through no observation twice: s, t, s where s and t are the first pair
-- that breaks, else the first closed part of the walk that the rounds give, whose sum there is the start.
pub record GivesNegativeCycle (n : ℕ) (c : ℕ → ℕ → ℕ) (walk : List ℕ) : Type 0 where
  pub negative : IsNegativeCycle n c walk
  pub simple : IsSimpleCycle n walk
  pub start : ExactTotal
  pub comes : IsBreakingCycle (sums n (step_sum c)) start walk
      ⊎ (NoPairBreaks (sums n (step_sum c)) × IsCutFromRounds (sums n (step_sum c)) start walk)

-- Values where the test holds, and then the least sums; else a closed walk with a negative sum.
abbrev pub IsQuasilinearVerdict : ℕ → (ℕ → ℕ → ℕ) → Quasi → Type 0
IsQuasilinearVerdict n c (Values values) = AreLeastSums n c values × MeetsQuasilinearTest n c
IsQuasilinearVerdict n c (Cycle walk) = GivesNegativeCycle n c walk
