-- What was chosen stands in groups by budget.
use Rattle.std.proofs.Common.{◌≡◌, ℕ, zero, suc, ◌+◌, ◌-◌, ◌*◌, ◌^◌, ◌<◌, ◌≤◌, ◌==◌, ◌⊎◌, inl, inr, true, false, List, [], ◌∷◌, map, length, slice_index, refl, sym, ap, ◌∙◌, arith, if◌then◌else◌}
use Rattle.std.proofs.lemmas.Bool.{cases_eq, ne_eqb}
use Rattle.std.proofs.lemmas.List.{length-map}
use Rattle.rp_table.specs.BudgetLists.{BudgetList}
use Rattle.rp_table.specs.ChoiceLists.{ChoiceList, IsChoiceList}
use Rattle.rp_table.specs.Sums.{sum_below}
use Rattle.rp_table.proofs.SumsBelow.{sum_below-mono}
use Rattle.rp_patch.specs.Apportionment.{AreGrouped, GroupedCounts, counts_in, groups_in}
use Rattle.rp_patch.specs.Choices.{AreChoicesFrom, RandomInput, random_input_of, times_on}
use Rattle.rp_patch.specs.InnerUnited.{budgets_of, counts_of, times_of}
use Rattle.rp_patch.specs.Units.{all_chosen, chosen_at, chosen_counts}
use Rattle.rp_patch.specs.declared.chosen.Chosen.{Chosen}
use Rattle.rp_patch.proofs.Apart.{some_or_none}
use Rattle.rp_patch.proofs.ChosenLaws.{chosen_budget, chosen_rising, chosen_total, times_if}
use Rattle.rp_patch.proofs.RoundedUpGroups.{sum_zero}
use Rattle.rp_patch.proofs.Sums.{some_times}

-- some choices were made on every budget, and not too many
pub some_on_every : (budgets : BudgetList) (choices : ChoiceList) → AreChoicesFrom budgets choices → (j : ℕ) → j < length budgets.w → 0 < times_on (random_input_of budgets choices) j
some_on_every budgets choices from j below =
    let some = from.on_every j below in
    some_times (slice_index choices.budget) (slice_index choices.times) (length choices.budget) j some.0 some.1 some.2 some.3

sum_of_small : (on : ℕ → ℕ) (times : ℕ → ℕ) (j most n : ℕ) → ((i : ℕ) → i < n → times i ≤ most) → sum_below n (λ i. if on i == j then times i else 0) ≤ n * most
sum_of_small on times j most zero each = omega arith
sum_of_small on times j most (suc n) each = by (on n == j) (each n (omega arith)) (sum_of_small on times j most n (λ i l. each i (omega arith)))
  where
    by : (b : _) → times n ≤ most → sum_below n (λ i. if on i == j then times i else 0) ≤ n * most
        → sum_below n (λ i. if on i == j then times i else 0) + (if b then times n else 0) ≤ suc n * most
    by true here rest = omega (arith, here, rest)
    by false here rest = omega (arith, here, rest)

pub few_on_each : (budgets : BudgetList) (choices : ChoiceList) → IsChoiceList choices → (j : ℕ) → times_on (random_input_of budgets choices) j < 2 ^ 36
few_on_each budgets choices valid j =
    let few = sum_of_small (slice_index choices.budget) (slice_index choices.times) j 9999999 (length choices.budget)
    (λ i l. valid.times_limits i 0 (omega (arith, l, valid.all_times))) in
    omega (arith, few, valid.few_choices)

-- budgets and times in lists
pub read_map : (f : Chosen → ℕ) → f (record { budget = 0; signs = []; times = 0 }) ≡ 0 → (xs : List Chosen) (i : ℕ) → slice_index (map f xs) i ≡ f (chosen_at xs i)
read_map f none [] i = sym none
read_map f none (x ∷ xs) zero = refl
read_map f none (x ∷ xs) (suc i) = read_map f none xs i

module _ (input : RandomInput) (some : 1 ≤ input.budgets) (positive : (j : ℕ) → j < input.budgets → 0 < times_on input j) where
  abbrev n : ℕ
  n = length (all_chosen input)

  abbrev budget_at : ℕ → ℕ
  budget_at i = (chosen_at (all_chosen input) i).budget

  -- some patch was chosen on every budget
  some_chosen : (j : ℕ) → j < input.budgets → (k : ℕ) × (k < n) × (budget_at k ≡ j)
  some_chosen j below = elim (some_or_none (λ i. 0) (λ i. times_if j (chosen_at (all_chosen input) i)) n) [
    | inl found ↦ (found.0, found.1, on found.0 found.2 (cases_eq (budget_at found.0) j))
    | inr none ↦
        let all = sum_below-mono (λ i. times_if j (chosen_at (all_chosen input) i)) (λ i. 0) n none in
        absurd (omega (arith, all, sum_zero (λ i. 0) n (λ i. refl), chosen_total input j below, positive j below))
  ]
    where
      on : (k : ℕ) → 0 < times_if j (chosen_at (all_chosen input) k) → (budget_at k ≡ j) ⊎ (¬ (budget_at k ≡ j)) → budget_at k ≡ j
      on k more (inl e) = e
      on k more (inr d) = absurd (omega (arith, more, ap (λ b. if b then (chosen_at (all_chosen input) k).times else 0) (ne_eqb (budget_at k) j d)))

  budget_read : (i : ℕ) → slice_index (budgets_of (all_chosen input)) i ≡ budget_at i
  budget_read i = read_map (λ (one : Chosen). one.budget) refl (all_chosen input) i

  length_is : length (budgets_of (all_chosen input)) ≡ n
  length_is = length-map (all_chosen input) (λ (one : Chosen). one.budget)

  some_place : 1 ≤ n
  some_place = let top = some_chosen 0 (omega (arith, some)) in omega (arith, top.1)

  last_budget : budget_at (n - 1) + 1 ≡ input.budgets
  last_budget =
      let top = some_chosen (input.budgets - 1) (omega (arith, some)) in
      let rises = chosen_rising input top.0 (n - 1) (omega (arith, top.1)) (omega (arith, some_place)) in
      omega (arith, top.2, rises, some, chosen_budget input (n - 1) (omega (arith, some_place)))

  pub groups_is : groups_in (budgets_of (all_chosen input)) ≡ input.budgets
  groups_is = ap (λ m. slice_index (budgets_of (all_chosen input)) (m - 1) + 1) length_is ∙ ap (λ v. v + 1) (budget_read (n - 1)) ∙ last_budget

  pub counts_is : counts_of (all_chosen input) ≡ chosen_counts input
  counts_is = λ k. record {
    groups = groups_is k;
    places = length_is k;
    group = λ i. budget_read i k;
    count = λ i. read_map (λ (one : Chosen). one.times) refl (all_chosen input) i k;
  }

  next_budget : (i : ℕ) → i + 1 < n → (budget_at (i + 1) ≡ budget_at i) ⊎ (budget_at (i + 1) ≡ budget_at i + 1)
  next_budget i within = elim (cases_eq (budget_at (i + 1)) (budget_at i)) [
    | inl e ↦ inl e
    | inr d ↦ elim (cases_eq (budget_at (i + 1)) (budget_at i + 1)) [
      | inl e ↦ inr e
      | inr f ↦
          let rises = chosen_rising input i (i + 1) (omega arith) within in
          let between = some_chosen (budget_at i + 1) (omega (arith, rises, d, f, chosen_budget input (i + 1) within)) in
          absurd (out between.0 between.1 between.2 d f rises (cases_le between.0 i))
    ]
  ]
    where
      cases_le : (a b : ℕ) → (a ≤ b) ⊎ (b + 1 ≤ a)
      cases_le zero b = inl (omega arith)
      cases_le (suc a) zero = inr (omega arith)
      cases_le (suc a) (suc b) = elim (cases_le a b) [ inl l ↦ inl (omega (arith, l)) | inr g ↦ inr (omega (arith, g)) ]

      out : (k : ℕ) → k < n → budget_at k ≡ budget_at i + 1 → ¬ (budget_at (i + 1) ≡ budget_at i) → ¬ (budget_at (i + 1) ≡ budget_at i + 1)
          → budget_at i ≤ budget_at (i + 1) → (k ≤ i) ⊎ (i + 1 ≤ k) → ⊥
      out k l is d f rises (inl before) = omega (arith, is, chosen_rising input k i before (omega (arith, within)))
      out k l is d f rises (inr after) = omega (arith, is, d, f, rises, chosen_rising input (i + 1) k after l)

  first_budget : budget_at 0 ≡ 0
  first_budget =
      let low = some_chosen 0 (omega (arith, some)) in
      omega (arith, low.2, chosen_rising input 0 low.0 (omega arith) low.1)

  pub are_grouped : n ≤ 256 → ((j : ℕ) → times_on input j < 2 ^ 36) → AreGrouped (budgets_of (all_chosen input)) (times_of (all_chosen input))
  are_grouped few small = record {
    same = length_is ∙ sym (length-map (all_chosen input) (λ (one : Chosen). one.times));
    some = omega (arith, length_is, some_place);
    few = omega (arith, length_is, few);
    first = budget_read 0 ∙ first_budget;
    next = λ i within. elim (next_budget i (omega (arith, within, length_is))) [
      | inl e ↦ inl (budget_read (i + 1) ∙ e ∙ sym (budget_read i))
      | inr e ↦ inr (budget_read (i + 1) ∙ e ∙ ap (λ v. v + 1) (sym (budget_read i)))
    ];
    positive = λ j below.
        let here : j < input.budgets = omega (arith, below, groups_is) in
        omega (arith, sum_is j here, positive j here);
    small = λ j below.
        let here : j < input.budgets = omega (arith, below, groups_is) in
        omega (arith, sum_is j here, small j);
  }
    where
      sum_is : (j : ℕ) → j < input.budgets → counts_in (counts_of (all_chosen input)) j ≡ times_on input j
      sum_is j here = ap (λ (g : GroupedCounts). counts_in g j) counts_is ∙ chosen_total input j here
