-- Ranks of kept observations, and of strict steps that are left, which show that no walk contradicts itself (ranks by
-- preference, Varian 1982).
use Rattle.std.specs.Prelude.{◌≡◌, ◌<◌, ◌≤◌, ℕ, List, length, slice_index}
use Rattle.rp_evidence.specs.Preference.{IsStrict, IsWeak}

-- The ranks respect the kept observations: one for each of them, in their order; no weak step between two of them rises
-- and each strict step falls.
pub record RespectKept (c : ℕ → ℕ → ℕ) (kept ranks : List ℕ) : Type 0 where
  pub one_each : length ranks ≡ length kept
  pub weak_never_rises : (i j : ℕ) → i < length kept → j < length kept
      → IsWeak c (slice_index kept i) (slice_index kept j) → slice_index ranks j ≤ slice_index ranks i
  pub strict_falls : (i j : ℕ) → i < length kept → j < length kept
      → IsStrict c (slice_index kept i) (slice_index kept j) → slice_index ranks j < slice_index ranks i
