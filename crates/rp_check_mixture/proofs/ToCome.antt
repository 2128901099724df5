-- What the patches of a type weigh at least on the budgets to come, from the last budget on: a rest that weighs so much
-- is the lightest patch of a budget and such a rest of the budgets after it.
use Rattle.std.proofs.Common.{add-one, ◌≡◌, ◌<◌, ◌≤◌, ◌+◌, ◌-◌, ◌*◌, ◌^◌, ◌++◌, ◌==◌, inl, inr, ℕ, zero, suc, Bool, true, false, List, [], ◌∷◌, length, length-set, get_or-set_same, get_or-set_other, set, slice_index, eqb-true, if◌then◌else◌, below_more, refl, subst, sym, ap, ◌∙◌, arith}
use Rattle.std.proofs.lemmas.Bool.{cases_eq}
use Rattle.rp_limits.specs.declared.table.TheConstants.{BUDGETS}
use Rattle.rp_table.specs.Sums.{sum_below}
use Rattle.rp_patch.specs.Kinds.{cells_weight}
use Rattle.rp_patch.specs.Patches.{IsPatchList, PatchList, budget_at, units_at}
use Rattle.rp_patch.specs.Types.{IsType}
use Rattle.rp_check_mixture.specs.InnerSearch.{AreLeastToCome, IsLeastBelow, IsLeastOn, SomeRestWeighs, first_weigh}

-- ---- what lists of patches weigh

sum_shift : (f : ℕ → ℕ) (n : ℕ) → sum_below (suc n) f ≡ f 0 + sum_below n (λ j. f (suc j))
sum_shift f zero = omega arith
sum_shift f (suc n) = omega (arith, sum_shift f n)

weight_cons : (weights : List ℕ) (i : ℕ) (rest : List ℕ) → cells_weight weights (i ∷ rest) ≡ slice_index weights i + cells_weight weights rest
weight_cons weights i rest = sum_shift (λ j. slice_index weights (slice_index (i ∷ rest) j)) (length rest)

pub weight_append : (weights front rest : List ℕ) → cells_weight weights (front ++ rest) ≡ cells_weight weights front + cells_weight weights rest
weight_append weights [] rest =
    let none : cells_weight weights [] ≡ 0 = refl in
    let same : cells_weight weights ([] ++ rest) ≡ cells_weight weights rest = refl in
    omega (arith, none, same)
weight_append weights (i ∷ front) rest =
    let same : cells_weight weights ((i ∷ front) ++ rest) ≡ cells_weight weights (i ∷ (front ++ rest)) = refl in
    omega (arith, same, weight_cons weights i (front ++ rest), weight_cons weights i front, weight_append weights front rest)

-- ---- the lightest patch of a budget

some_of_sum : (on : ℕ → Bool) (units : ℕ → ℕ) (n : ℕ) → 0 < sum_below n (λ i. if on i then units i else 0) → (i : ℕ) × (i < n) × (on i ≡ true)
some_of_sum on units zero some = absurd (omega (arith, some))
some_of_sum on units (suc n) some = by (on n) refl (some_of_sum on units n)
  where
    earlier : (i : ℕ) × (i < n) × (on i ≡ true) → (i : ℕ) × (i < suc n) × (on i ≡ true)
    earlier (i, below, is) = (i, omega (arith, below), is)

    by : (b : Bool) → on n ≡ b → (0 < sum_below n (λ i. if on i then units i else 0) → (i : ℕ) × (i < n) × (on i ≡ true)) → (i : ℕ) × (i < suc n) × (on i ≡ true)
    by true is rest = (n, omega arith, is)
    by false is rest =
        let here : (if on n then units n else 0) ≡ 0 = ap (λ (b : Bool). if b then units n else 0) is in
        earlier (rest (omega (arith, some, here)))

some_on : (p : PatchList) → IsPatchList p → (j : ℕ) → j < p.budgets → (i : ℕ) × (i < length p.patches) × (budget_at p i ≡ j)
some_on p is j below =
    let some : 0 < sum_below (length p.patches) (λ i. if budget_at p i == j then units_at p i else 0) = omega (arith, is.filled j below, is.some_units) in
    let h = some_of_sum (λ i. budget_at p i == j) (units_at p) (length p.patches) some in
    (h.0, h.1, eqb-true (budget_at p h.0) j h.2)

module _ (p : PatchList) (weights : List ℕ) (j : ℕ) where
  pub none_yet : IsLeastBelow p weights j 0 (2 ^ 64 - 1)
  none_yet = record { no_less = λ i below on. absurd (omega (arith, below)); reached = inl refl }

  module _ (n least : ℕ) (s : IsLeastBelow p weights j n least) (within : n < length p.patches) where
    pub least_here : budget_at p n ≡ j → slice_index weights n < least → IsLeastBelow p weights j (n + 1) (slice_index weights n)
    least_here on less = record {
      no_less = below_more (λ i. budget_at p i ≡ j → slice_index weights n ≤ slice_index weights i) n (λ i below its. omega (arith, less, s.no_less i below its)) (λ its. omega arith);
      reached = inr (n, within, on, refl);
    }

    pub least_before : (budget_at p n ≡ j → least ≤ slice_index weights n) → IsLeastBelow p weights j (n + 1) least
    least_before no_less = record {
      no_less = below_more (λ i. budget_at p i ≡ j → least ≤ slice_index weights i) n s.no_less no_less;
      reached = s.reached;
    }

  pub least_of_all : (least : ℕ) → IsPatchList p → j < p.budgets → ((i : ℕ) → slice_index weights i < 2 ^ 64) → IsLeastBelow p weights j (length p.patches) least → IsLeastOn p weights j least
  least_of_all least is below small s = record {
    no_less = s.no_less;
    reached = elim s.reached [
      | inl most ↦
          let h = some_on p is j below in
          (h.0, h.1, h.2, omega (arith, most, small h.0, s.no_less h.0 h.1 h.2))
      | inr found ↦ found
    ];
  }

-- ---- the budgets to come

-- the last k budgets have theirs, and the next one to write is `least`
pub record IsWrittenTo (p : PatchList) (weights to_come : List ℕ) (least k : ℕ) : Type 0 where
  pub room : length to_come ≡ BUDGETS
  pub small : least ≤ k * 2 ^ 64
  pub each_small : (d : ℕ) → d < p.budgets → p.budgets ≤ d + k → slice_index to_come d ≤ BUDGETS * 2 ^ 64
  pub next : (d : ℕ) → d + k ≡ p.budgets → (type : List ℕ) → IsType p type → least + first_weigh weights type d ≤ cells_weight weights type
  pub next_reached : (d : ℕ) → d + k ≡ p.budgets → SomeRestWeighs p weights d least
  pub written : (d : ℕ) → d < p.budgets → p.budgets ≤ d + k → (type : List ℕ) → IsType p type
      → slice_index to_come d + first_weigh weights type (d + 1) ≤ cells_weight weights type
  pub reached : (d : ℕ) → d < p.budgets → p.budgets ≤ d + k → SomeRestWeighs p weights (d + 1) (slice_index to_come d)

rest_of_none : (p : PatchList) (weights : List ℕ) (d : ℕ) → d + 0 ≡ p.budgets → SomeRestWeighs p weights d 0
rest_of_none p weights d is = (
  [],
  record { one_each = is; patch = λ j below. absurd (omega (arith, below)); on_its_budget = λ j below. absurd (omega (arith, below)) },
  refl,
)

rest_more : (p : PatchList) (weights : List ℕ) (d i weight : ℕ) → i < length p.patches → budget_at p i ≡ d → SomeRestWeighs p weights (d + 1) weight
    → SomeRestWeighs p weights d (weight + slice_index weights i)
rest_more p weights d i weight within on (rest, is, weighs) = (
  i ∷ rest,
  record { one_each = omega (arith, is.one_each); patch = patch; on_its_budget = on_its_budget },
  omega (arith, weight_cons weights i rest, weighs),
)
  where
    patch : (j : ℕ) → j < length (i ∷ rest) → slice_index (i ∷ rest) j < length p.patches
    patch zero below = within
    patch (suc j) below = is.patch j (omega (arith, below))

    on_its_budget : (j : ℕ) → j < length (i ∷ rest) → budget_at p (slice_index (i ∷ rest) j) ≡ d + j
    on_its_budget zero below = let here : d ≡ d + 0 = omega arith in on ∙ here
    on_its_budget (suc j) below = let later : d + 1 + j ≡ d + suc j = omega arith in is.on_its_budget j (omega (arith, below)) ∙ later

module _ (p : PatchList) (weights : List ℕ) where
  pub none_written : (to_come : List ℕ) → length to_come ≡ BUDGETS → IsWrittenTo p weights to_come 0 0
  none_written to_come room = record {
    room = room;
    small = omega arith;
    each_small = λ d l below. absurd (omega (arith, l, below));
    next = λ d is type types.
        let all : length type ≡ d = omega (arith, types.one_each, is) in
        subst (λ n. 0 + first_weigh weights type n ≤ cells_weight weights type) all (omega arith);
    next_reached = λ d is. rest_of_none p weights d is;
    written = λ d l below. absurd (omega (arith, l, below));
    reached = λ d l below. absurd (omega (arith, l, below));
  }

  -- budget d is written, whose lightest patch weighs `lightest`
  module _ (to_come : List ℕ) (least k : ℕ) (s : IsWrittenTo p weights to_come least k) (d lightest : ℕ) (here : d + (k + 1) ≡ p.budgets) (few : p.budgets ≤ BUDGETS)
      (fits : lightest ≤ 2 ^ 64) (light : IsLeastOn p weights d lightest) where
    abbrev now : List ℕ
    now = set to_come d least

    same : slice_index now d ≡ least
    same = get_or-set_same to_come d least 0 (omega (arith, here, few, s.room))

    other : (e : ℕ) → ¬ (e ≡ d) → slice_index now e ≡ slice_index to_come e
    other e apart = get_or-set_other to_come d e least 0 apart

    after : d + 1 + k ≡ p.budgets
    after = omega (arith, here)

    next_rest : SomeRestWeighs p weights d (least + lightest)
    next_rest =
        let h = light.reached in
        subst (λ x. SomeRestWeighs p weights d (least + x)) h.3 (rest_more p weights d h.0 least h.1 h.2 (s.next_reached (d + 1) after))

    pub one_written : IsWrittenTo p weights now (least + lightest) (k + 1)
    one_written = record {
      room = length-set to_come d least ∙ s.room;
      small = omega (arith, s.small, fits);
      each_small = λ e l below. elim (cases_eq e d) [
        | inl is ↦ subst (λ x. slice_index now x ≤ BUDGETS * 2 ^ 64) (sym is) (omega (arith, same, s.small, here, few))
        | inr apart ↦ omega (arith, other e apart, s.each_small e l (omega (arith, below, here, apart)))
      ];
      next = λ e is type types.
          let at : e ≡ d = omega (arith, is, here) in
          let this = s.next (d + 1) after type types in
          let its = light.no_less (slice_index type d) (types.patch d (omega (arith, here))) (types.on_its_budget d (omega (arith, here))) in
          let more : first_weigh weights type (d + 1) ≡ first_weigh weights type d + slice_index weights (slice_index type d) = ap (first_weigh weights type) (add-one d) in
          subst (λ x. least + lightest + first_weigh weights type x ≤ cells_weight weights type) (sym at) (omega (arith, this, its, more));
      next_reached = λ e is.
          let at : e ≡ d = omega (arith, is, here) in
          subst (λ x. SomeRestWeighs p weights x (least + lightest)) (sym at) next_rest;
      written = λ e l below type types. elim (cases_eq e d) [
        | inl is ↦ subst (λ x. slice_index now x + first_weigh weights type (x + 1) ≤ cells_weight weights type) (sym is)
            (omega (arith, same, s.next (d + 1) after type types))
        | inr apart ↦ omega (arith, other e apart, s.written e l (omega (arith, below, here, apart)) type types)
      ];
      reached = λ e l below. elim (cases_eq e d) [
        | inl is ↦ subst (λ x. SomeRestWeighs p weights (x + 1) (slice_index now x)) (sym is)
            (subst (SomeRestWeighs p weights (d + 1)) (sym same) (s.next_reached (d + 1) after))
        | inr apart ↦ subst (SomeRestWeighs p weights (e + 1)) (sym (other e apart)) (s.reached e l (omega (arith, below, here, apart)))
      ];
    }

  pub all_written : (to_come : List ℕ) (least k : ℕ) → p.budgets ≤ k → IsWrittenTo p weights to_come least k → AreLeastToCome p weights to_come
  all_written to_come least k all s = record {
    no_less = λ d l. s.written d l (omega (arith, all));
    reached = λ d l. s.reached d l (omega (arith, all));
  }
