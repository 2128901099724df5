-- Pairs of observations that contradict each other: a violation of two steps (Varian 1982; this is the case
-- of two observations in the weak axiom of revealed preference).
use Rattle.std.specs.Prelude.{ℕ, List, Option}
use Rattle.rp_evidence.specs.First.{AreFirstRelated}
use Rattle.rp_evidence.specs.Preference.{StrictByLevels, WeakByLevels}

-- s is weakly preferred to t, and t strictly to s
abbrev pub Contradict : (ℕ → ℕ → Type 0) → (ℕ → ℕ → Type 0) → ℕ → ℕ → Type 0
Contradict weak strict s t = weak s t × strict t s

-- the first two of n observations that contradict each other, where they have these levels, or none; or none where there
-- are none
abbrev pub IsOwnPairs : ℕ → List ℕ → (ℕ → ℕ → ℕ) → Option (ℕ × ℕ) → Type 0
IsOwnPairs n levels c found = AreFirstRelated n (Contradict (WeakByLevels levels c) (StrictByLevels levels c)) found
