-- Patches with their units (after Kitamura and Stoye 2018), as lists.
use Rattle.std.specs.Prelude.{◌≡◌, ℕ, ◌<◌, ◌≤◌, ◌==◌, ℤ, pos, List, [], length, slice_index_or, Option, if◌then◌else◌}
use Rattle.rp_table.specs.Sums.{sum_below}
use Rattle.rp_limits.specs.declared.table.TheConstants.{BUDGETS}
use Rattle.rp_limits.specs.declared.generated.TheConstants.{PATCHES}
use Rattle.rp_limits.specs.declared.patch.TheConstants.{UNITS}
use Rattle.rp_patch.specs.declared.patch_list.Patch.{Patch}

-- The patches of so many budgets, the units of each budget, and the unit that was asked for.
pub record PatchList : Type 0 where
  pub budgets : ℕ
  pub patches : List Patch
  pub total : ℕ
  pub asked : Option ℕ

abbrev pub no_patch : Patch
no_patch = record { budget = 0; signs = []; units = 0 }

abbrev pub patch_at : PatchList → ℕ → Patch
patch_at p i = slice_index_or p.patches i no_patch

-- The budget of patch i.
abbrev pub budget_at : PatchList → ℕ → ℕ
budget_at p i = (patch_at p i).budget

-- The sign of patch i to budget k: 1 above, -1 below.
abbrev pub sign_at : PatchList → ℕ → ℕ → ℤ
sign_at p i k = slice_index_or (patch_at p i).signs k (pos 0)

-- The units of patch i.
abbrev pub units_at : PatchList → ℕ → ℕ
units_at p i = (patch_at p i).units

-- The units of the patches of budget j.
abbrev pub units_on : PatchList → ℕ → ℕ
units_on p j = sum_below (length p.patches) (λ i. if budget_at p i == j then units_at p i else 0)

-- Patches within the limits: each has a budget and a sign to every budget, they stand by budget, and none has more
-- units than a budget has; those of each budget together have just as many.
pub record IsPatchList (p : PatchList) : Type 0 where
  pub some_budgets : 1 ≤ p.budgets
  pub few_budgets : p.budgets ≤ BUDGETS
  pub few_patches : length p.patches ≤ PATCHES
  pub some_units : 1 ≤ p.total
  pub few_units : p.total ≤ UNITS
  pub on_budgets : (i : ℕ) → i < length p.patches → budget_at p i < p.budgets
  pub all_signs : (i : ℕ) → i < length p.patches → length (patch_at p i).signs ≡ p.budgets
  pub by_budget : (h i : ℕ) → h ≤ i → i < length p.patches → budget_at p h ≤ budget_at p i
  pub units_within : (i : ℕ) → i < length p.patches → units_at p i ≤ p.total
  pub filled : (j : ℕ) → j < p.budgets → units_on p j ≡ p.total
