-- Two observations that violate the generalized axiom of revealed preference (Varian 1982), and which evidence is given
-- for it: which ranks, and which of the cycles.
use Rattle.std.specs.Prelude.{◌≡◌, ◌++◌, ◌∷◌, [], ℕ, List}
use Rattle.rp_evidence.specs.Count.{AreCounts}
use Rattle.rp_evidence.specs.First.{IsFirstRelated}
use Rattle.rp_evidence.specs.Walk.{IsShortestWalk, Reaches}
use Rattle.rp_evidence.specs.declared.garp.Garp.{Garp}
use Rattle.rp_evidence.specs.declared.garp.Garp.TheVariants.{Ranks, Cycle}

-- s reaches t, and t is strictly preferred to s: a violation goes from s to t and back.
abbrev pub Violate : ℕ → (ℕ → ℕ → Type 0) → (ℕ → ℕ → Type 0) → ℕ → ℕ → Type 0
Violate n weak strict s t = Reaches n weak s t × strict t s

-- The cycle is a walk of fewest weak steps from s to t, and then s again.
abbrev pub IsCycleOf : ℕ → (ℕ → ℕ → Type 0) → ℕ → ℕ → List ℕ → Type 0
IsCycleOf n weak s t cycle = (walk : List ℕ) × IsShortestWalk n weak s t walk × (cycle ≡ walk ++ s ∷ [])

-- The ranks are the counts; a cycle is that of the first two observations that violate the axiom.
abbrev pub IsVerdictOfPreference : ℕ → (ℕ → ℕ → Type 0) → (ℕ → ℕ → Type 0) → Garp → Type 0
IsVerdictOfPreference n weak strict (Ranks ranks) = AreCounts n weak ranks
IsVerdictOfPreference n weak strict (Cycle cycle) =
    (s : ℕ) × (t : ℕ) × IsFirstRelated n (Violate n weak strict) s t × IsCycleOf n weak s t cycle
