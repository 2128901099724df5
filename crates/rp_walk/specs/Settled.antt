-- Pairs that break, closed walks that fall below their start, and least totals at all observations (this project's
-- own).
use Rattle.std.specs.Prelude.{◌≡◌, ℕ, ◌<◌, ◌⊎◌, List, [], ◌∷◌, length}
use Rattle.rp_walk.specs.ExactTotal.{ExactTotal, IsLess, SameTotal}
use Rattle.rp_walk.specs.Walk.{TotalRule, AreObservations, IsTotal, end_of, total_after}
use Rattle.rp_walk.specs.LeastTotals.{IsLeast}

-- Whatever total a walk reaches at s, going on to t and back to s lowers it.
abbrev pub PairBreaks : TotalRule → ℕ → ℕ → Type 0
PairBreaks w s t = (k : ℕ) (x : ExactTotal) → IsTotal w k s x → IsLess (total_after w x s (t ∷ s ∷ [])) x

-- The first pair that breaks, in the order of s and then t, with s < t.
pub record IsFirstBreakingPair (w : TotalRule) (s t : ℕ) : Type 0 where
  pub in_order : s < t
  pub within : t < w.count
  pub breaks : PairBreaks w s t
  pub none_before : (s' t' : ℕ) → (s' < s) ⊎ ((s' ≡ s) × (t' < t)) → s' < t' → t' < w.count → ¬ (PairBreaks w s' t')

abbrev pub NoPairBreaks : TotalRule → Type 0
NoPairBreaks w = (s t : ℕ) → s < t → t < w.count → ¬ (PairBreaks w s t)

-- The walk is closed, the start is the total of some walk to its beginning, and it ends below that start.
pub record FallsBelowStart (w : TotalRule) (start : ExactTotal) (walk : List ℕ) : Type 0 where
  pub first : ℕ
  pub rest : List ℕ
  pub is_walk : AreObservations w first rest
  pub walk_is : walk ≡ first ∷ rest
  pub has_step : 0 < length rest
  pub closed : end_of first rest ≡ first
  pub start_reached : (k : ℕ) × (x : ExactTotal) × IsTotal w k first x × SameTotal x start
  pub ends_below : IsLess (total_after w start first rest) start

-- Every observation has a least total over the walks of any length that end there.
abbrev pub HasLeastTotals : TotalRule → Type 0
HasLeastTotals w = (s : ℕ) → s < w.count → (x : ExactTotal) × IsLeast w s x
