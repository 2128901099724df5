-- What was chosen and its units make patches within the limits.
use Rattle.std.proofs.Common.{◌≡◌, ℕ, zero, suc, ◌<◌, ◌≤◌, ◌==◌, ◌⊎◌, inl, inr, ℤ, List, length, Option, slice_index, refl, sym, ap, subst, ◌∙◌, arith, if◌then◌else◌}
use Rattle.std.proofs.lemmas.Bool.{eq-eqb}
use Rattle.std.proofs.lemmas.List.{get_or_past}
use Rattle.rp_table.specs.Sums.{sum_below}
use Rattle.rp_table.proofs.SumsBelow.{sum_at_least, sum_below-same}
use Rattle.rp_patch.specs.Apportionment.{AreFilled, HasShares}
use Rattle.rp_patch.specs.Choices.{RandomInput}
use Rattle.rp_patch.specs.InnerUnited.{AreUnited, SaysWhyNotShared}
use Rattle.rp_patch.specs.Patches.{IsPatchList, PatchList, budget_at, no_patch, patch_at, units_at, units_on}
use Rattle.rp_patch.specs.Units.{ArePatchesOf, HasUnits, SaysWhyWithin, all_chosen, chosen_at, chosen_counts}
use Rattle.rp_patch.specs.declared.fault.PatchFault.{PatchFault}
use Rattle.rp_patch.specs.declared.fault.PatchFault.TheVariants.{TooManyPatches, NeedUnit, NoMemory}
use Rattle.rp_patch.specs.declared.chosen.Chosen.{Chosen}
use Rattle.rp_patch.specs.declared.patch_list.Patch.{Patch}
use Rattle.rp_patch.proofs.ChosenLaws.{chosen_budget, chosen_rising, chosen_signs}

module _ (input : RandomInput) (total : ℕ) (units : List ℕ) (each : length units ≡ length (all_chosen input))
    (p : PatchList) (budgets_is : p.budgets ≡ input.budgets) (total_is : p.total ≡ total) (united : AreUnited (all_chosen input) units (length (all_chosen input)) p.patches) where
  abbrev n : ℕ
  n = length (all_chosen input)

  abbrev one : ℕ → Chosen
  one i = chosen_at (all_chosen input) i

  patch_budget : (i : ℕ) → i < n → budget_at p i ≡ (one i).budget
  patch_budget i within = ap (λ (x : Patch). x.budget) (united.1 i within)

  patch_signs : (i : ℕ) → i < n → (patch_at p i).signs ≡ (one i).signs
  patch_signs i within = ap (λ (x : Patch). x.signs) (united.1 i within)

  cases_lt : (k m : ℕ) → (k < m) ⊎ (m ≤ k)
  cases_lt zero zero = inr (omega arith)
  cases_lt zero (suc m) = inl (omega arith)
  cases_lt (suc k) zero = inr (omega arith)
  cases_lt (suc k) (suc m) = elim (cases_lt k m) [ inl l ↦ inl (omega (arith, l)) | inr g ↦ inr (omega (arith, g)) ]

  units_same : (i : ℕ) → units_at p i ≡ slice_index units i
  units_same i = elim (cases_lt i n) [
    | inl l ↦ ap (λ (x : Patch). x.units) (united.1 i l)
    | inr g ↦ ap (λ (x : Patch). x.units) (get_or_past p.patches i no_patch (omega (arith, g, united.0))) ∙ sym (get_or_past units i 0 (omega (arith, g, each)))
  ]

  has_units : (asked : Option ℕ) → HasShares (chosen_counts input) asked total (slice_index units) → HasUnits input asked p
  has_units asked shares =
      subst (λ (claim : Type 0). claim) (λ k. HasShares (chosen_counts input) asked (sym total_is k) (λ i. sym (units_same i) k)) shares

  given_on : AreFilled (chosen_counts input) total (slice_index units) → (j : ℕ) → j < p.budgets → units_on p j ≡ p.total
  given_on filled j below =
      ap (λ k. sum_below k (λ i. if budget_at p i == j then units_at p i else 0)) united.0
      ∙ sum_below-same _ _ n (λ i within. (λ k. if patch_budget i within k == j then units_same i k else 0))
      ∙ filled j (omega (arith, below, budgets_is)) ∙ sym total_is

  within_total : AreFilled (chosen_counts input) total (slice_index units) → (i : ℕ) → i < length p.patches → units_at p i ≤ p.total
  within_total filled i within =
      let in_all : i < n = omega (arith, within, united.0) in
      let j = budget_at p i in
      let below : j < p.budgets = omega (arith, patch_budget i in_all, chosen_budget input i in_all, budgets_is) in
      let least = sum_at_least (λ k. if budget_at p k == j then units_at p k else 0) (length p.patches) i within in
      let here : (if budget_at p i == j then units_at p i else 0) ≡ units_at p i = ap (λ b. if b then units_at p i else 0) (eq-eqb j j refl) in
      omega (arith, least, here, given_on filled j below)

  pub is_patch_list : AreFilled (chosen_counts input) total (slice_index units) → 1 ≤ input.budgets → input.budgets ≤ 48 → n ≤ 256
      → 1 ≤ total → total ≤ 1000000000 → IsPatchList p
  is_patch_list filled some few few_patches some_units few_units = record {
    some_budgets = omega (arith, some, budgets_is);
    few_budgets = omega (arith, few, budgets_is);
    few_patches = omega (arith, few_patches, united.0);
    some_units = omega (arith, some_units, total_is);
    few_units = omega (arith, few_units, total_is);
    on_budgets = λ i within. let in_all : i < n = omega (arith, within, united.0) in omega (arith, patch_budget i in_all, chosen_budget input i in_all, budgets_is);
    all_signs = λ i within. let in_all : i < n = omega (arith, within, united.0) in ap (λ (xs : List ℤ). length xs) (patch_signs i in_all) ∙ chosen_signs input i in_all ∙ sym budgets_is;
    by_budget = λ h i le within. let in_all : i < n = omega (arith, within, united.0) in omega (arith, patch_budget h (omega (arith, le, in_all)), patch_budget i in_all, chosen_rising input h i le in_all);
    units_within = within_total filled;
    filled = given_on filled;
  }

  pub are_patches : (asked : Option ℕ) → HasShares (chosen_counts input) asked total (slice_index units) → p.asked ≡ asked → ArePatchesOf input asked p
  are_patches asked shares asked_is = record {
    budgets = budgets_is;
    asked_is = asked_is;
    count = united.0;
    budget = λ i within. patch_budget i (omega (arith, within, united.0));
    signs = λ i within. patch_signs i (omega (arith, within, united.0));
    units = has_units asked shares;
  }

-- the same facts of a list that was read
pub united_by : (input : RandomInput) (chosen : List Chosen) (units read : List ℕ) (patches : List Patch) → chosen ≡ all_chosen input → read ≡ units
    → AreUnited chosen read (length chosen) patches → AreUnited (all_chosen input) units (length (all_chosen input)) patches
united_by input chosen units read patches is same united =
    subst (λ xs. AreUnited xs units (length xs) patches) is (subst (λ us. AreUnited chosen us (length chosen) patches) same united)

-- why there are no patches, where there are not too many and they have no units
pub refused_units : (input : RandomInput) (asked : Option ℕ) (most : ℕ) (f : PatchFault) → length (all_chosen input) ≤ most
    → SaysWhyNotShared (chosen_counts input) asked f → SaysWhyWithin input asked most f
refused_units input asked most (TooManyPatches j) few why = absurd why
refused_units input asked most (NeedUnit j) few why = (few, why.0, why.1)
refused_units input asked most NoMemory few why = why
