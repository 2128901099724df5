-- The walk that the rounds of the computation give (rounds: Bellman 1958; Ford 1956), and the first closed part of it.
use Rattle.std.specs.Prelude.{◌≡◌, ◌≢◌, ℕ, suc, ◌+◌, ◌-◌, ◌<◌, List, length, slice_index, take, drop}
use Rattle.rp_walk.specs.ExactTotal.{ExactTotal, SameTotal}
use Rattle.rp_walk.specs.Walk.{TotalRule, prefix_total}
use Rattle.rp_walk.specs.LeastTotals.{IsLeastWithin, IsLive}

-- The least total to t over at most k steps, taken on to s, is the least total to s over at most k + 1.
abbrev pub Carries : TotalRule → ℕ → ℕ → ℕ → Type 0
Carries w k t s = (x : ExactTotal) → IsLeastWithin w k t x → IsLeastWithin w (suc k) s (w.after x t s)

-- Round k + 1 comes to s from t: the first observation from which a step after k steps can matter and carries the
-- least total on to s.
pub record CameFrom (w : TotalRule) (k s t : ℕ) : Type 0 where
  pub within : t < w.count
  pub live : IsLive w k t
  pub carries : Carries w k t s
  pub first : (t' : ℕ) → t' < t → IsLive w k t' → ¬ (Carries w k t' s)

-- The first observation whose least total round k makes less.
pub record IsFirstLive (w : TotalRule) (k s : ℕ) : Type 0 where
  pub within : s < w.count
  pub live : IsLive w k s
  pub none_before : (s' : ℕ) → s' < s → ¬ (IsLive w k s')

-- The walk that the rounds give: as many steps as there are observations, to the first observation that the last
-- round improves, each from where its round comes.
pub record IsRoundWalk (w : TotalRule) (walk : List ℕ) : Type 0 where
  pub one_more : length walk ≡ w.count + 1
  pub ends : IsFirstLive w w.count (slice_index walk w.count)
  pub came : (m : ℕ) → m < w.count → CameFrom w m (slice_index walk (suc m)) (slice_index walk m)

-- The first closed part of a list, from its beginning, is between the places a and b: no two entries before b are
-- equal, and that at b is the one at a.
pub record IsFirstClosedPart (walk : List ℕ) (a b : ℕ) : Type 0 where
  pub in_order : a < b
  pub in_walk : b < length walk
  pub closed : slice_index walk a ≡ slice_index walk b
  pub first : (i j : ℕ) → i < j → j < b → slice_index walk i ≢ slice_index walk j

-- The cycle is the first closed part of the walk that the rounds give, and the start is the walk's total there.
pub record IsCutFromRounds (w : TotalRule) (start : ExactTotal) (cycle : List ℕ) : Type 0 where
  pub walk : List ℕ
  pub is_given : IsRoundWalk w walk
  pub a : ℕ
  pub b : ℕ
  pub first_part : IsFirstClosedPart walk a b
  pub cycle_is : cycle ≡ take (b + 1 - a) (drop a walk)
  pub start_is : SameTotal (prefix_total w (slice_index walk) a) start
