-- Patches that nobody chose (Kitamura and Stoye 2018): a list with some of them added means the same.
use Rattle.std.specs.Prelude.{◌≡◌, ◌⊎◌, ◌<◌, ℕ, length}
use Rattle.rp_patch.specs.Patches.{PatchList, patch_at, units_at}

-- Patches without units were added to p, which gives q: patch i of p is the patch of q at the place that it went to,
-- no two go to one place, and every patch of q is one of these or has no units.
pub record AddsPatches (p q : PatchList) (place : ℕ → ℕ) : Type 0 where
  pub budgets : q.budgets ≡ p.budgets
  pub total : q.total ≡ p.total
  pub goes_to : (i : ℕ) → i < length p.patches → place i < length q.patches
  pub same : (i : ℕ) → i < length p.patches → patch_at q (place i) ≡ patch_at p i
  pub apart : (h i : ℕ) → h < length p.patches → i < length p.patches → place h ≡ place i → h ≡ i
  pub others : (k : ℕ) → k < length q.patches
      → ((i : ℕ) × (i < length p.patches) × (place i ≡ k)) ⊎ (units_at q k ≡ 0)
