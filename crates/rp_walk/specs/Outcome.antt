-- What the computation of least totals by rounds comes to (this project's own, after Bellman 1958 and Ford 1956).
use Rattle.std.specs.Prelude.{◌≡◌, ℕ, ◌<◌, ◌⊎◌, List, [], ◌∷◌, length, slice_index_or}
use Rattle.rp_walk.specs.ExactTotal.{ExactTotal, SameTotal}
use Rattle.rp_walk.specs.Walk.{IsSimpleCycle, TotalRule}
use Rattle.rp_walk.specs.LeastTotals.{IsLeast, IsFirstTooWide, NoneTooWide, WalkFits}
use Rattle.rp_walk.specs.RoundWalk.{IsCutFromRounds}
use Rattle.rp_walk.specs.Settled.{IsFirstBreakingPair, NoPairBreaks, FallsBelowStart, HasLeastTotals}
use Rattle.rp_walk.specs.declared.outcome.Settled.{Settled}
use Rattle.rp_walk.specs.declared.outcome.Settled.TheVariants.{Values, Cycle, Wide}

-- The values are the least totals over the walks of any length, by the observation where they end, and
-- every step from them fits. No pair breaks, and no triple is too wide.
pub record SettlesInValues {V : Type 0} (w : TotalRule) (fits : ExactTotal → Type 0) (exact : V → ExactTotal)
    (values : List V) : Type 0 where
  pub no_pair : NoPairBreaks w
  pub none_too_wide : NoneTooWide w fits
  pub one_each : length values ≡ w.count
  pub least : (s : ℕ) (d : V) → s < w.count → IsLeast w s (exact (slice_index_or values s d))
  pub steps_fit : (t s : ℕ) (d : V) → t < w.count → s < w.count
      → ¬ (¬ (fits (w.after (exact (slice_index_or values t d)) t s)))

-- The cycle is the walk s, t, s from the empty total for the first pair that breaks.
pub record IsBreakingCycle (w : TotalRule) (start : ExactTotal) (walk : List ℕ) : Type 0 where
  pub s : ℕ
  pub t : ℕ
  pub first_pair : IsFirstBreakingPair w s t
  pub start_empty : SameTotal start w.empty
  pub walk_is : walk ≡ s ∷ t ∷ s ∷ []

-- No pair breaks and no triple is too wide, but some observation has no least total over the walks of
-- any length. Each step along the cycle fits. It is the first closed part of the walk that the rounds give.
pub record IsRoundCycle (w : TotalRule) (fits : ExactTotal → Type 0) (start : ExactTotal) (walk : List ℕ) : Type 0 where
  pub no_pair : NoPairBreaks w
  pub none_too_wide : NoneTooWide w fits
  pub no_least : ¬ (HasLeastTotals w)
  pub steps_fit : WalkFits w fits start walk
  pub first_part : IsCutFromRounds w start walk

-- A closed walk that ends below its start and goes through no observation twice, and when it comes.
pub record SettlesInCycle (w : TotalRule) (fits : ExactTotal → Type 0) (start : ExactTotal)
    (walk : List ℕ) : Type 0 where
  pub falls : FallsBelowStart w start walk
  pub simple : IsSimpleCycle w.count walk
  pub comes : IsBreakingCycle w start walk ⊎ IsRoundCycle w fits start walk

-- No pair breaks, and this is the first triple that is too wide.
pub record SettlesInWide (w : TotalRule) (fits : ExactTotal → Type 0) (k t s : ℕ) : Type 0 where
  pub no_pair : NoPairBreaks w
  pub first : IsFirstTooWide w fits k t s

-- What the computation by rounds comes to.
abbrev pub IsSettled : {V : Type 0} → TotalRule → (ExactTotal → Type 0) → (V → ExactTotal) → Settled V → Type 0
IsSettled w fits exact (Values values) = SettlesInValues w fits exact values
IsSettled w fits exact (Cycle start walk) = SettlesInCycle w fits (exact start) walk
IsSettled w fits exact (Wide k t s) = SettlesInWide w fits k t s
