-- For the proofs alone: what the rounds keep while they are made. No public clause cites these words.
use Rattle.std.specs.Prelude.{◌≡◌, ℕ, suc, ◌+◌, ◌*◌, ◌-◌, ◌<◌, ◌≤◌, List, length, map, slice_index, slice_index_or}
use Rattle.rp_walk.specs.ExactTotal.{ExactTotal, IsLess, SameTotal}
use Rattle.rp_walk.specs.Walk.{TotalRule}
use Rattle.rp_walk.specs.LeastTotals.{IsLeastWithin, IsLive}
use Rattle.rp_walk.specs.RoundWalk.{CameFrom}

-- The exact totals that a list of values stands for, by observation.
abbrev pub totals_of : {V : Type 0} → (V → ExactTotal) → ExactTotal → List V → ℕ → ExactTotal
totals_of exact empty values s = slice_index_or (map exact values) s empty

-- At round k, `total s` is the least total to s over at most k steps, and `from s` is below `count`
-- exactly where the round made it less.
pub record AreRoundTotals (w : TotalRule) (k : ℕ) (total : ℕ → ExactTotal) (from : ℕ → ℕ) : Type 0 where
  pub least : (s : ℕ) → s < w.count → IsLeastWithin w k s (total s)
  pub live : (s : ℕ) → s < w.count → from s < w.count → IsLive w k s
  pub idle : (s : ℕ) → s < w.count → w.count ≤ from s → (0 < k) × IsLeastWithin w (k - 1) s (total s)

-- What the next round is after the steps from the observations below `tried`.
pub record IsNext (w : TotalRule) (total : ℕ → ExactTotal) (from : ℕ → ℕ) (tried : ℕ) (next : ℕ → ExactTotal)
    (came : ℕ → ℕ) : Type 0 where
  pub kept : (s : ℕ) → s < w.count → w.count ≤ came s → next s ≡ total s
  pub tried_from : (s : ℕ) → s < w.count → came s < w.count → came s < tried
  pub live_from : (s : ℕ) → s < w.count → came s < w.count → from (came s) < w.count
  pub taken : (s : ℕ) → s < w.count → came s < w.count → SameTotal (next s) (w.after (total (came s)) (came s) s)
  pub less : (s : ℕ) → s < w.count → came s < w.count → IsLess (next s) (total s)
  pub lowest : (s t : ℕ) → s < w.count → t < tried → from t < w.count → ¬ (IsLess (w.after (total t) t s) (next s))
  pub first : (s t : ℕ) → s < w.count → came s < w.count → t < came s → from t < w.count
      → IsLess (next s) (w.after (total t) t s)

-- The steps from the observations below `tried` that can matter fit.
abbrev pub TriedFits : TotalRule → (ExactTotal → Type 0) → (ℕ → ExactTotal) → (ℕ → ℕ) → ℕ → Type 0
TriedFits w fits total from tried =
    (t s : ℕ) → t < tried → s < w.count → from t < w.count → ¬ (¬ (fits (w.after (total t) t s)))

-- The steps from t with the total x were tried to the observations below `tried`: each is taken where
-- it is less than what stood there.
pub record IsTried {V : Type 0} (w : TotalRule) (exact : V → ExactTotal) (x : ExactTotal) (t : ℕ) (old : List V)
    (old_from : List ℕ) (tried : ℕ) (new : List V) (new_from : List ℕ) : Type 0 where
  pub values_len : length new ≡ length old
  pub from_len : length new_from ≡ length old_from
  pub kept : (s : ℕ) → s < tried → ¬ (IsLess (w.after x t s) (totals_of exact w.empty old s))
      → (totals_of exact w.empty new s ≡ totals_of exact w.empty old s)
      × (slice_index new_from s ≡ slice_index old_from s)
  pub taken : (s : ℕ) → s < tried → IsLess (w.after x t s) (totals_of exact w.empty old s)
      → SameTotal (totals_of exact w.empty new s) (w.after x t s) × (slice_index new_from s ≡ t)
  pub rest : (s : ℕ) → tried ≤ s
      → (totals_of exact w.empty new s ≡ totals_of exact w.empty old s)
      × (slice_index new_from s ≡ slice_index old_from s)

-- The steps from t with the total x to the observations below `tried` fit.
abbrev pub StepsFit : TotalRule → (ExactTotal → Type 0) → ExactTotal → ℕ → ℕ → Type 0
StepsFit w fits x t tried = (s : ℕ) → s < tried → ¬ (¬ (fits (w.after x t s)))

-- What the rounds remember: entry k * count + s says where a least walk of k + 1 steps to s comes from,
-- if it is less than all with fewer steps.
abbrev pub Remembers : TotalRule → ℕ → List ℕ → Type 0
Remembers w rounds history =
    (k s : ℕ) → k < rounds → s < w.count → IsLive w (suc k) s → CameFrom w k s (slice_index history (k * w.count + s))
