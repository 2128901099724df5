-- Steps by ranks pass the check.
use Rattle.std.proofs.Common.{◌≡◌, ◌<◌, ◌+◌, ◌-◌, ◌==◌, ◌||◌, ℕ, false, List, [], ◌∷◌, ◌++◌, Ok, length, get_or, arith, refl, sym, subst, ◌∙◌, below_more, eq-eqb}
use Rattle.std.proofs.Math.ListN.{get_or-append}
use Rattle.std.proofs.Math.Seq.{get_or-append_seam}
use Rattle.std.proofs.lemmas.List.{get_or_append_left, get_or_push, length-append, length_push}
use Rattle.std.proofs.lemmas.List.Folds.{list_any-append}
use Rattle.std.specs.List.{list_any}
use Rattle.std.proofs.lemmas.Bool.{or_parts}
use Rattle.rp_check_levels.specs.StepsFailure.{IsStepAt, StepsFail}
use Rattle.rp_evidence.specs.Preference.{IsStrict}
use Rattle.rp_fit.specs.Steps.{taken_cost}
use Rattle.rp_fit.specs.StepsEvidence.{is_taken}
use Rattle.rp_fit.specs.declared.weighted.WeightedWalk.{WeightedWalk}
use Rattle.rp_fit_search.specs.InnerByRanks.{AreRisingBelow, AreRisingSteps, AreRisingUpTo}

-- nothing is listed before any step is looked at
pub rising_none : (n : ℕ) (c : ℕ → ℕ → ℕ) (ranks : List ℕ) (s : ℕ) → AreRisingUpTo n c ranks 0 s []
rising_none n c ranks s = record {
  steps = λ k hk. absurd (omega arith);
  below = λ k hk. absurd (omega arith);
  falls = λ t ht. absurd (omega arith);
}

-- a turn that lists nothing
pub rising_same : (n : ℕ) (c : ℕ → ℕ → ℕ) (ranks : List ℕ) (t s : ℕ) (row : List ℕ) → AreRisingUpTo n c ranks t s row
    → (IsStrict c s t → get_or ranks t 0 < get_or ranks s 0) → AreRisingUpTo n c ranks (t + 1) s row
rising_same n c ranks t s row so_far falls = record {
  steps = so_far.steps;
  below = λ k hk. let h = so_far.below k hk in omega (arith, h);
  falls = below_more (λ v. IsStrict c s v → list_any (λ u. u == v) row ≡ false → get_or ranks v 0 < get_or ranks s 0) t so_far.falls (λ strict none. falls strict);
}

pub rising_where_rank_falls : (n : ℕ) (c : ℕ → ℕ → ℕ) (ranks : List ℕ) (t s : ℕ) (row : List ℕ) → AreRisingUpTo n c ranks t s row
    → get_or ranks t 0 < get_or ranks s 0 → AreRisingUpTo n c ranks (t + 1) s row
rising_where_rank_falls n c ranks t s row so_far falls = rising_same n c ranks t s row so_far (λ strict. falls)

pub rising_where_not_strict : (n : ℕ) (c : ℕ → ℕ → ℕ) (ranks : List ℕ) (t s : ℕ) (row : List ℕ) → AreRisingUpTo n c ranks t s row
    → (¬ IsStrict c s t) → AreRisingUpTo n c ranks (t + 1) s row
rising_where_not_strict n c ranks t s row so_far not = rising_same n c ranks t s row so_far (λ strict. absurd (not strict))

-- the entries before the last one
old_entry : (row : List ℕ) (t k : ℕ) → k < length row → get_or (row ++ t ∷ []) k 0 ≡ get_or row k 0
old_entry row t k hk = get_or-append row (t ∷ []) 0 k hk

-- the last entry
new_entry : (row : List ℕ) (t k : ℕ) → k ≡ length row → get_or (row ++ t ∷ []) k 0 ≡ t
new_entry row t k e = subst (λ j. get_or (row ++ t ∷ []) j 0 ≡ t) (sym e) (get_or-append_seam row t [] 0)

step_kept : (n : ℕ) (c : ℕ → ℕ → ℕ) (s : ℕ) (row : List ℕ) (t k : ℕ) → k < length row → IsStepAt n c s row k → IsStepAt n c s (row ++ t ∷ []) k
step_kept n c s row t k hk step = (
  subst (λ v. v < n) (sym (old_entry row t k hk)) step.0,
  subst (λ v. IsStrict c s v) (sym (old_entry row t k hk)) step.1,
  (λ some. subst (λ v. get_or (row ++ t ∷ []) (k - 1) 0 < v) (sym (old_entry row t k hk))
      (subst (λ v. v < get_or row k 0) (sym (old_entry row t (k - 1) (omega arith))) (step.2 some))),
)

step_new : (n : ℕ) (c : ℕ → ℕ → ℕ) (s : ℕ) (row : List ℕ) (t : ℕ) → ((k : ℕ) → k < length row → get_or row k 0 < t) → t < n → IsStrict c s t
    → IsStepAt n c s (row ++ t ∷ []) (length row)
step_new n c s row t below ht strict = (
  subst (λ v. v < n) (sym (new_entry row t (length row) refl)) ht,
  subst (λ v. IsStrict c s v) (sym (new_entry row t (length row) refl)) strict,
  (λ some. subst (λ v. get_or (row ++ t ∷ []) (length row - 1) 0 < v) (sym (new_entry row t (length row) refl))
      (subst (λ v. v < t) (sym (old_entry row t (length row - 1) (omega arith))) (below (length row - 1) (omega arith)))),
)

-- what a longer list does not have, the shorter one has not, and it is not the last entry
not_before : (row : List ℕ) (t v : ℕ) → list_any (λ u. u == v) (row ++ t ∷ []) ≡ false → list_any (λ u. u == v) row ≡ false
not_before row t v none = (or_parts (list_any (λ u. u == v) row) (list_any (λ u. u == v) (t ∷ [])) (sym (list_any-append (λ u. u == v) row (t ∷ [])) ∙ none)).0

not_last : (row : List ℕ) (t : ℕ) → list_any (λ u. u == t) (row ++ t ∷ []) ≡ false → ⊥
not_last row t none =
    let last : ((t == t) || false) ≡ false = (or_parts (list_any (λ u. u == t) row) (list_any (λ u. u == t) (t ∷ [])) (sym (list_any-append (λ u. u == t) row (t ∷ [])) ∙ none)).1 in
    absurd (cc (last, eq-eqb t t refl))

-- a turn that lists the step
pub rising_next : (n : ℕ) (c : ℕ → ℕ → ℕ) (ranks : List ℕ) (t s : ℕ) (row : List ℕ) → AreRisingUpTo n c ranks t s row
    → t < n → IsStrict c s t → AreRisingUpTo n c ranks (t + 1) s (row ++ t ∷ [])
rising_next n c ranks t s row so_far ht strict =
    let long : length (row ++ t ∷ []) ≡ length row + 1 = length-append row (t ∷ []) in
    record {
      steps = λ k hk. below_more (λ j. IsStepAt n c s (row ++ t ∷ []) j) (length row)
          (λ j hj. step_kept n c s row t j hj (so_far.steps j hj)) (step_new n c s row t so_far.below ht strict) k (omega (arith, hk, long));
      below = λ k hk. below_more (λ j. get_or (row ++ t ∷ []) j 0 < t + 1) (length row)
          (λ j hj. let h = so_far.below j hj in subst (λ v. v < t + 1) (sym (old_entry row t j hj)) (omega (arith, h)))
          (subst (λ v. v < t + 1) (sym (new_entry row t (length row) refl)) (omega arith)) k (omega (arith, hk, long));
      falls = below_more (λ v. IsStrict c s v → list_any (λ u. u == v) (row ++ t ∷ []) ≡ false → get_or ranks v 0 < get_or ranks s 0) t
          (λ v hv is none. so_far.falls v hv is (not_before row t v none)) (λ is none. absurd (not_last row t none));
    }

pub rising_pushed : (n : ℕ) (c : ℕ → ℕ → ℕ) (ranks : List ℕ) (t s : ℕ) (row new : List ℕ) → AreRisingUpTo n c ranks t s row
    → t < n → IsStrict c s t → new ≡ row ++ t ∷ [] → AreRisingUpTo n c ranks (t + 1) s new
rising_pushed n c ranks t s row new so_far ht strict is = subst (λ list. AreRisingUpTo n c ranks (t + 1) s list) (sym is) (rising_next n c ranks t s row so_far ht strict)

-- before any observation
pub rising_below_none : (n : ℕ) (c : ℕ → ℕ → ℕ) (ranks : List ℕ) → AreRisingBelow n c ranks 0 []
rising_below_none n c ranks = record { one_each = refl; each = λ s hs. absurd (omega arith) }

-- one observation more
pub rising_below_pushed : (n : ℕ) (c : ℕ → ℕ → ℕ) (ranks : List ℕ) (s : ℕ) (rows : List (List ℕ)) (row list : List ℕ) (new : List (List ℕ))
    → AreRisingBelow n c ranks s rows → AreRisingSteps n c ranks s row → list ≡ row → new ≡ rows ++ list ∷ [] → AreRisingBelow n c ranks (s + 1) new
rising_below_pushed n c ranks s rows row list new so_far last same is = rw (is, same) (record {
  one_each = omega (arith, length_push rows row, so_far.one_each);
  each = below_more (λ v. AreRisingSteps n c ranks v (get_or (rows ++ row ∷ []) v [])) s
      (λ v hv. subst (λ w. AreRisingSteps n c ranks v w) (sym (get_or_append_left rows (row ∷ []) [] v (omega (arith, hv, so_far.one_each)))) (so_far.each v hv))
      (subst (λ w. AreRisingSteps n c ranks s w) (sym (get_or_push rows row [] s so_far.one_each)) last);
})

-- steps by ranks, without walks
pub steps_pass : (n : ℕ) (c : ℕ → ℕ → ℕ) (taken : List (List ℕ)) (cost : ℕ) (ranks : List ℕ) → length ranks ≡ n → AreRisingBelow n c ranks n taken
    → cost ≡ taken_cost n c (is_taken taken)
    → StepsFail n c (record { taken = taken; cost = cost; ranks = ranks; den = 1; walks = [] }) (Ok tt)
steps_pass n c taken cost ranks one_each rising costs = (
  omega arith,
  (
    (rising.one_each, (one_each, ((λ s hs. (rising.each s hs).steps), ((λ s hs t ht strict left. (rising.each s hs).falls t ht strict left), tt)))),
    (sym costs, ((λ k hk. absurd (omega arith)), ((λ s hs t ht strict. omega arith), tt))),
  ),
)

-- the same where the part's lists are equal to these
pub steps_of_lists_pass : (n : ℕ) (c : ℕ → ℕ → ℕ) (taken : List (List ℕ)) (cost : ℕ) (ranks : List ℕ) (taken' : List (List ℕ)) (ranks' : List ℕ)
    (walks : List WeightedWalk) → taken' ≡ taken → ranks' ≡ ranks → walks ≡ [] → length ranks ≡ n → AreRisingBelow n c ranks n taken
    → cost ≡ taken_cost n c (is_taken taken)
    → StepsFail n c (record { taken = taken'; cost = cost; ranks = ranks'; den = 1; walks = walks }) (Ok tt)
steps_of_lists_pass n c taken cost ranks taken' ranks' walks e f g one_each rising costs =
    subst (λ a. StepsFail n c (record { taken = a; cost = cost; ranks = ranks'; den = 1; walks = walks }) (Ok tt)) (sym e)
    (subst (λ r. StepsFail n c (record { taken = taken; cost = cost; ranks = r; den = 1; walks = walks }) (Ok tt)) (sym f)
    (subst (λ w. StepsFail n c (record { taken = taken; cost = cost; ranks = ranks; den = 1; walks = w }) (Ok tt)) (sym g)
    (steps_pass n c taken cost ranks one_each rising costs)))
