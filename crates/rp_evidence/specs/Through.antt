-- Walks through some of the observations only (Warshall 1962, A theorem on Boolean matrices). How a closure is found;
-- no definition of evidence rests on these words.
use Rattle.std.specs.Prelude.{ℕ, zero, suc, ◌⊎◌}

-- Some walk with at least one step leads from s to t, and each observation between its ends is below k: observation k
-- is passed at most once, between a walk to it and one from it that do not pass it.
abbrev pub ReachesThrough : ℕ → (ℕ → ℕ → Type 0) → ℕ → ℕ → Type 0
ReachesThrough zero step s t = step s t
ReachesThrough (suc k) step s t = ReachesThrough k step s t ⊎ (ReachesThrough k step s k × ReachesThrough k step k t)
