-- Laws of the list of all patches that were chosen.
use Rattle.std.proofs.Common.{◌≡◌, ℕ, zero, suc, ◌+◌, ◌<◌, ◌≤◌, ◌++◌, Bool, ℤ, List, [], ◌∷◌, map, take, get_or, length, Bor, refl, sym, ap, ◌∙◌, arith, add-one, length-append, append_assoc}
use Rattle.std.specs.List.{range_with_len}
use Rattle.std.proofs.lemmas.List.{length-map, map_push}
use Rattle.std.proofs.lemmas.List.FromFn.{get_or-map-range_with_len}
use Rattle.std.proofs.Math.Seq.{take-length, take-suc}
use Rattle.rp_table.specs.BudgetLists.{BudgetList}
use Rattle.rp_table.specs.ChoiceLists.{ChoiceList}
use Rattle.rp_patch.specs.Choices.{RandomInput, random_input_of}
use Rattle.rp_patch.specs.Signs.{signs_of}
use Rattle.rp_patch.specs.InnerTallies.{tallied, tally_of}
use Rattle.rp_patch.specs.Units.{chosen_as, chosen_below, tally_by, tally_on}
use Rattle.rp_patch.specs.declared.chosen.Chosen.{Chosen}

tally_by-same : (f g : ℕ → List ℤ) (counts : ℕ → Bool) (times : ℕ → ℕ) (n : ℕ) → ((i : ℕ) → i < n → f i ≡ g i) → tally_by f counts times n ≡ tally_by g counts times n
tally_by-same f g counts times zero same = refl
tally_by-same f g counts times (suc n) same = rw (tally_by-same f g counts times n (λ i within. same i (omega arith)), same n (omega arith)) refl

-- the tally of listed signs is that of the signs
pub tally_same : (budgets : BudgetList) (choices : ChoiceList) (all : List (List ℤ)) (j : ℕ)
    → all ≡ map (signs_of (random_input_of budgets choices)) (range_with_len 0 (length choices.budget))
    → tally_of all choices j (length choices.budget) ≡ tally_on (random_input_of budgets choices) j
tally_same budgets choices all j is =
    tally_by-same _ _ _ _ (length choices.budget)
    (λ i within. rw is (get_or-map-range_with_len (signs_of (random_input_of budgets choices)) 0 (length choices.budget) i i [] within (omega arith)))

-- the patches of one more budget
pub more_chosen : (input : RandomInput) (j : ℕ) (old new : List Chosen) (tally : List (List ℤ × ℕ))
    → old ≡ chosen_below input j → tally ≡ tally_on input j → new ≡ old ++ map (chosen_as j) tally → new ≡ chosen_below input (j + 1)
more_chosen input j old new tally so_far is after = after ∙ rw (so_far, is, add-one) refl

pub length_tallied : (entries : List (Bor (List ℤ) × ℕ)) → length (tallied entries) ≡ length entries
length_tallied [] = refl
length_tallied (e ∷ es) = ap suc (length_tallied es)

-- how many patches there are with one more budget
pub how_many : (input : RandomInput) (j : ℕ) (old : List Chosen) (entries : List (Bor (List ℤ) × ℕ))
    → old ≡ chosen_below input j → tallied entries ≡ tally_on input j → length (chosen_below input (j + 1)) ≡ length old + length entries
how_many input j old entries so_far is =
    ap length (sym (more_chosen input j old (old ++ map (chosen_as j) (tallied entries)) (tallied entries) so_far is refl))
    ∙ length-append old (map (chosen_as j) (tallied entries))
    ∙ ap (λ n. length old + n) (length-map (tallied entries) (chosen_as j) ∙ length_tallied entries)

-- one more entry of a tally
pub one_pushed : (j at : ℕ) (tally : List (List ℤ × ℕ)) (old : List Chosen) → at < length tally
    → (old ++ map (chosen_as j) (take at tally)) ++ chosen_as j (get_or tally at ([], 0)) ∷ [] ≡ old ++ map (chosen_as j) (take (at + 1) tally)
one_pushed j at tally old within =
    append_assoc old (map (chosen_as j) (take at tally)) (chosen_as j (get_or tally at ([], 0)) ∷ [])
    ∙ ap (λ xs. old ++ xs) (sym (map_push (chosen_as j) (take at tally) (get_or tally at ([], 0))))
    ∙ ap (λ xs. old ++ map (chosen_as j) xs) (rw add-one (sym (take-suc tally at ([], 0) within)))

-- all entries of a tally
pub all_pushed : (j : ℕ) (at n : ℕ) (entries : List (Bor (List ℤ) × ℕ)) (old : List Chosen) → at ≤ n → n ≤ at → n ≡ length entries
    → old ++ map (chosen_as j) (take at (tallied entries)) ≡ old ++ map (chosen_as j) (tallied entries)
all_pushed j at n entries old most least is =
    let e : at ≡ length (tallied entries) = omega (arith, length_tallied entries, is) in
    ap (λ xs. old ++ map (chosen_as j) xs) (ap (λ k. take k (tallied entries)) e ∙ take-length (tallied entries))
