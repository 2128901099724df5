-- Patches in terms of the choices that fall in them: the first that was made numbers a patch, and all together are
-- its times (after Kitamura and Stoye 2018).
use Rattle.std.specs.Prelude.{◌≡◌, ◌⊎◌, ◌<◌, ◌≤◌, ◌==◌, ◌&&◌, ℕ, ℤ, List, length, if◌then◌else◌}
use Rattle.std.specs.Cmp.Lexicographic.{pointwise}
use Rattle.std.specs.Ordering.{int_eq}
use Rattle.rp_table.specs.Sums.{sum_below}
use Rattle.rp_patch.specs.Choices.{RandomInput}
use Rattle.rp_patch.specs.Patches.{PatchList, budget_at, patch_at}
use Rattle.rp_patch.specs.Signs.{signs_of}

-- Choice c falls in the patch of budget j with these signs: it was made on that budget, and its bundle has those signs.
pub record FallsIn (input : RandomInput) (j : ℕ) (signs : List ℤ) (c : ℕ) : Type 0 where
  pub is_choice : c < input.choices
  pub on_budget : input.budget c ≡ j
  pub has_signs : signs_of input c ≡ signs

-- It is the first that falls there of those that were made at least once.
pub record IsFirstIn (input : RandomInput) (j : ℕ) (signs : List ℤ) (c : ℕ) : Type 0 where
  pub falls : FallsIn input j signs c
  pub made : 0 < input.times c
  pub first : (d : ℕ) → FallsIn input j signs d → 0 < input.times d → c ≤ d

-- The same of a patch of a list.
abbrev pub FallsInPatch : RandomInput → PatchList → ℕ → ℕ → Type 0
FallsInPatch input p i c = FallsIn input (budget_at p i) (patch_at p i).signs c

abbrev pub IsFirstInPatch : RandomInput → PatchList → ℕ → ℕ → Type 0
IsFirstInPatch input p i c = IsFirstIn input (budget_at p i) (patch_at p i).signs c

-- The patches are those that some choice falls in that was made at least once, each one time: by budget, and on a
-- budget by the first such choice.
pub record AreNumberedByFirstChoice (input : RandomInput) (p : PatchList) : Type 0 where
  pub each : (i : ℕ) → i < length p.patches → (c : ℕ) × IsFirstInPatch input p i c
  pub all : (c : ℕ) → c < input.choices → input.budget c < input.budgets → 0 < input.times c
      → (i : ℕ) × (i < length p.patches) × FallsInPatch input p i c
  pub in_order : (h i c d : ℕ) → h < i → i < length p.patches → IsFirstInPatch input p h c → IsFirstInPatch input p i d
      → (budget_at p h < budget_at p i) ⊎ ((budget_at p h ≡ budget_at p i) × (c < d))

-- How many times choices were made that fall in patch i.
abbrev pub times_in : RandomInput → PatchList → ℕ → ℕ
times_in input p i = sum_below input.choices (λ c.
    if (input.budget c == budget_at p i) && pointwise int_eq (signs_of input c) (patch_at p i).signs
    then input.times c else 0)
