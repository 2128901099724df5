-- For the proofs alone: the weak steps of the level 1, listed by their starts. No public clause cites these words.
use Rattle.std.specs.Prelude.{◌≡◌, ◌≢◌, ◌<◌, ◌≤◌, ◌+◌, ◌*◌, ℕ, List, length, slice_index}

-- t is listed among the steps from s, which stand from the start of s up to that of the next: not each is another.
abbrev pub IsListed : List ℕ → List ℕ → ℕ → ℕ → Type 0
IsListed starts to s t =
    ¬ ((p : ℕ) → slice_index starts s ≤ p → p < slice_index starts (s + 1) → slice_index to p ≢ t)

-- Of each of the first m of n observations all are listed whose bundles cost no more than it spent, row by row.
pub record AreWeakSteps (m n : ℕ) (c : ℕ → ℕ → ℕ) (starts to : List ℕ) : Type 0 where
  pub start_each : length starts ≡ m + 1
  pub ends : slice_index starts m ≡ length to
  pub rows : (s : ℕ) → s < m → slice_index starts s ≤ slice_index starts (s + 1)
  pub within : (s : ℕ) → s ≤ m → slice_index starts s ≤ length to
  pub below : (p : ℕ) → p < length to → slice_index to p < n
  pub listed : (s t : ℕ) → s < m → t < n → c s t ≤ c s s → IsListed starts to s t
  pub few : length to ≤ m * n

-- To a list were added, of the first observations, all whose bundles cost no more than was spent at s.
pub record AddsRow (n : ℕ) (c : ℕ → ℕ → ℕ) (s end : ℕ) (old new : List ℕ) : Type 0 where
  pub longer : length old ≤ length new
  pub few : length new ≤ length old + end
  pub kept : (p : ℕ) → p < length old → slice_index new p ≡ slice_index old p
  pub below : (p : ℕ) → length old ≤ p → p < length new → slice_index new p < n
  pub listed : (t : ℕ) → t < end → c s t ≤ c s s
      → (p : ℕ) × (length old ≤ p) × (p < length new) × (slice_index new p ≡ t)
