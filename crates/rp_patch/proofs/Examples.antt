-- The definitions, tried at two budgets: prices (1,2) and (2,1), with 4 to spend on each. On the first (2,1) was chosen once and
-- (0,2) three times, on the second (1,2) and (2,0) twice each, after a choice that was made no time.
use Rattle.std.proofs.Common.{◌≡◌, ◌<◌, ◌≤◌, ℕ, zero, suc, pos, negsuc, None, [], ◌∷◌, length, slice_index, refl, arith, rules}
use Rattle.rp_table.specs.BudgetLists.{BudgetList}
use Rattle.rp_table.specs.ChoiceLists.{ChoiceList}
use Rattle.rp_evidence.proofs.Violations.{no_violation_under_ranks}
use Rattle.rp_patch.specs.Choices.{RandomInput, random_input_of, times_on}
use Rattle.rp_patch.specs.Patches.{IsPatchList, PatchList, budget_at, patch_at, units_at, units_on}
use Rattle.rp_patch.specs.Signs.{signs_of}
use Rattle.rp_evidence.specs.Garp.{IsViolation}
use Rattle.rp_evidence.specs.Ranks.{RespectPreference}
use Rattle.rp_patch.specs.Types.{IsRationalType, IsStrictBy, IsWeakBy, combinations}
use Rattle.rp_patch.specs.Units.{all_chosen}

abbrev two_budgets : BudgetList
two_budgets = record {
  names = (97 ∷ []) ∷ (98 ∷ []) ∷ [];
  prices = 1 ∷ 2 ∷ 2 ∷ 1 ∷ [];
  w = 4 ∷ 4 ∷ [];
}

abbrev some_choices : ChoiceList
some_choices = record {
  goods = 2;
  budget = 1 ∷ 0 ∷ 1 ∷ 0 ∷ 1 ∷ [];
  quantities = 2 ∷ 0 ∷ 2 ∷ 1 ∷ 1 ∷ 2 ∷ 0 ∷ 2 ∷ 2 ∷ 0 ∷ [];
  times = 0 ∷ 1 ∷ 2 ∷ 3 ∷ 2 ∷ [];
}

abbrev given : RandomInput
given = random_input_of two_budgets some_choices

above_the_second : signs_of given 1 ≡ pos 0 ∷ pos 1 ∷ []
above_the_second = refl

four_patches : all_chosen given ≡
    record { budget = 0; signs = pos 0 ∷ pos 1 ∷ []; times = 1 } ∷ record { budget = 0; signs = pos 0 ∷ negsuc 0 ∷ []; times = 3 }
    ∷ record { budget = 1; signs = pos 1 ∷ pos 0 ∷ []; times = 2 } ∷ record { budget = 1; signs = negsuc 0 ∷ pos 0 ∷ []; times = 2 } ∷ []
four_patches = refl

four_on_each : times_on given 1 ≡ 4
four_on_each = refl

-- the patches of these choices, with four units on each budget
abbrev their_patches : PatchList
their_patches = record {
  budgets = 2;
  patches =
      record { budget = 0; signs = pos 0 ∷ pos 1 ∷ []; units = 1 } ∷ record { budget = 0; signs = pos 0 ∷ negsuc 0 ∷ []; units = 3 }
      ∷ record { budget = 1; signs = pos 1 ∷ pos 0 ∷ []; units = 2 } ∷ record { budget = 1; signs = negsuc 0 ∷ pos 0 ∷ []; units = 2 } ∷ [];
  total = 4;
  asked = None;
}

four_combinations : combinations their_patches 2 ≡ 4
four_combinations = refl

all_units_of_the_second : units_on their_patches 1 ≡ 4
all_units_of_the_second = refl

-- the second patch with the fourth is a violation: each is below the other's budget
each_below_the_other : IsViolation 2 (IsWeakBy their_patches (1 ∷ 3 ∷ [])) (IsStrictBy their_patches (1 ∷ 3 ∷ [])) (0 ∷ 1 ∷ 0 ∷ [])
each_below_the_other = search rules

of_four : (P : ℕ → Type 0) → P 0 → P 1 → P 2 → P 3 → (i : ℕ) → i < 4 → P i
of_four P first second third fourth zero below = first
of_four P first second third fourth (suc zero) below = second
of_four P first second third fourth (suc (suc zero)) below = third
of_four P first second third fourth (suc (suc (suc zero))) below = fourth
of_four P first second third fourth (suc (suc (suc (suc i)))) below = absurd (omega (arith, below))

of_two : (P : ℕ → Type 0) → P 0 → P 1 → (j : ℕ) → j < 2 → P j
of_two P first second zero below = first
of_two P first second (suc zero) below = second
of_two P first second (suc (suc j)) below = absurd (omega (arith, below))

no_later_budget_before : (i : ℕ) → i < 4 → (h : ℕ) → h ≤ i → budget_at their_patches h ≤ budget_at their_patches i
no_later_budget_before =
    of_four (λ i. (h : ℕ) → h ≤ i → budget_at their_patches h ≤ budget_at their_patches i)
    (λ h le. of_four (λ h. h ≤ 0 → budget_at their_patches h ≤ 0) (λ e. omega arith) (λ e. omega arith) (λ e. absurd (omega (arith, e))) (λ e. absurd (omega (arith, e))) h (omega (arith, le)) le)
    (λ h le. of_four (λ h. h ≤ 1 → budget_at their_patches h ≤ 0) (λ e. omega arith) (λ e. omega arith) (λ e. absurd (omega (arith, e))) (λ e. absurd (omega (arith, e))) h (omega (arith, le)) le)
    (λ h le. of_four (λ h. h ≤ 2 → budget_at their_patches h ≤ 1) (λ e. omega arith) (λ e. omega arith) (λ e. omega arith) (λ e. omega arith) h (omega (arith, le)) le)
    (λ h le. of_four (λ h. h ≤ 3 → budget_at their_patches h ≤ 1) (λ e. omega arith) (λ e. omega arith) (λ e. omega arith) (λ e. omega arith) h (omega (arith, le)) le)

they_are_patches : IsPatchList their_patches
they_are_patches = record {
  some_budgets = omega arith;
  few_budgets = omega arith;
  few_patches = omega arith;
  some_units = omega arith;
  few_units = omega arith;
  on_budgets = of_four (λ i. budget_at their_patches i < 2) (omega arith) (omega arith) (omega arith) (omega arith);
  all_signs = of_four (λ i. length (patch_at their_patches i).signs ≡ 2) refl refl refl refl;
  by_budget = λ h i le below. no_later_budget_before i below h le;
  units_within = of_four (λ i. units_at their_patches i ≤ 4) (omega arith) (omega arith) (omega arith) (omega arith);
  filled = of_two (λ j. units_on their_patches j ≡ 4) refl refl;
}

-- the first patch with the fourth is rational: the first budget's choice is strictly preferred, and the other's is not weakly
respects : RespectPreference 2 (IsWeakBy their_patches (0 ∷ 3 ∷ [])) (IsStrictBy their_patches (0 ∷ 3 ∷ [])) (2 ∷ 1 ∷ [])
respects = record {
  one_each = refl;
  weak_never_rises = λ s t s_in t_in.
      of_two (λ s. IsWeakBy their_patches (0 ∷ 3 ∷ []) s t → slice_index (2 ∷ 1 ∷ []) t ≤ slice_index (2 ∷ 1 ∷ []) s)
      (of_two (λ t. IsWeakBy their_patches (0 ∷ 3 ∷ []) 0 t → slice_index (2 ∷ 1 ∷ []) t ≤ 2) (λ w. omega arith) (λ w. omega arith) t t_in)
      (of_two (λ t. IsWeakBy their_patches (0 ∷ 3 ∷ []) 1 t → slice_index (2 ∷ 1 ∷ []) t ≤ 1) (λ w. absurd (search (w, rules))) (λ w. omega arith) t t_in)
      s s_in;
  strict_falls = λ s t s_in t_in.
      of_two (λ s. IsStrictBy their_patches (0 ∷ 3 ∷ []) s t → slice_index (2 ∷ 1 ∷ []) t < slice_index (2 ∷ 1 ∷ []) s)
      (of_two (λ t. IsStrictBy their_patches (0 ∷ 3 ∷ []) 0 t → slice_index (2 ∷ 1 ∷ []) t < 2) (λ w. absurd (search (w, rules))) (λ w. omega arith) t t_in)
      (of_two (λ t. IsStrictBy their_patches (0 ∷ 3 ∷ []) 1 t → slice_index (2 ∷ 1 ∷ []) t < 1) (λ w. absurd (search (w, rules))) (λ w. absurd (search (w, rules))) t t_in)
      s s_in;
}

rational : IsRationalType their_patches (0 ∷ 3 ∷ [])
rational = (
  record {
    one_each = refl;
    patch = of_two (λ j. slice_index (0 ∷ 3 ∷ []) j < 4) (omega arith) (omega arith);
    on_its_budget = of_two (λ j. budget_at their_patches (slice_index (0 ∷ 3 ∷ []) j) ≡ j) refl refl;
  },
  λ walk. no_violation_under_ranks 2 (IsWeakBy their_patches (0 ∷ 3 ∷ [])) (IsStrictBy their_patches (0 ∷ 3 ∷ [])) (2 ∷ 1 ∷ []) respects walk,
)
