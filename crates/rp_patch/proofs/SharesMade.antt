-- What the shares of a total make: units within the limits that stand for the counts.
use Rattle.std.proofs.Common.{◌≡◌, ℕ, zero, suc, ◌+◌, ◌*◌, ◌/◌, ◌%◌, ◌<◌, ◌≤◌, ◌==◌, ◌⊎◌, inl, inr, Bool, true, false, List, length, Option, Some, None, refl, sym, ap, subst, ◌∙◌, arith, if◌then◌else◌, slice_index, mod-lt, div-add-mod'}
use Prim.Native.Nat.{◌∣◌}
use Rattle.std.proofs.lemmas.Bool.{cases_eq, eq-eqb, ne_eqb, false≢true}
use Rattle.std.proofs.lemmas.List.{get_or_past}
use Rattle.std.proofs.lemmas.Nat.Gcd.{mod-eq-zero_of_dvd}
use Rattle.std.proofs.Math.Nat.{dvd-mul_left, dvd_trans}
use Rattle.rp_table.specs.Sums.{sum_below}
use Rattle.rp_table.proofs.SumsBelow.{sum_at_least, sum_below-same}
use Rattle.rp_patch.specs.Apportionment.{AreFilled, RestComesBefore, GroupedCounts, HasApportionedShares, HasShares, counts_in, rest_of, whole_of}
use Rattle.rp_patch.specs.InnerPortions.{ArePortions, AreRoundedUpBelow, ArePortionUnits, AreWholeParts, IsAhead, IsSharedTotal, portion_at, portions_on, rounded_up_on, portion_units, whole_on}
use Rattle.rp_patch.specs.declared.portion.Portion.{Portion}
use Rattle.rp_patch.proofs.RoundedUpGroups.{same_whole}
use Rattle.rp_patch.proofs.Shares.{cancelled, sum_plus, sum_scaled_at_most}

same_from : (a b : ℕ) → (a == b) ≡ true → a ≡ b
same_from a b e = elim (cases_eq a b) [ inl is ↦ is | inr d ↦ absurd (false≢true (sym (ne_eqb a b d) ∙ e)) ]

-- a count is a part of those of its group
pub count_within : (g : GroupedCounts) (i : ℕ) → i < g.places → g.count i ≤ counts_in g (g.group i)
count_within g i within =
    let least = sum_at_least (λ k. if g.group k == g.group i then g.count k else 0) g.places i within in
    let here : (if g.group i == g.group i then g.count i else 0) ≡ g.count i = ap (λ b. if b then g.count i else 0) (eq-eqb (g.group i) (g.group i) refl) in
    omega (arith, least, here)

module _ (g : GroupedCounts) (inside : (i : ℕ) → i < g.places → g.group i < g.groups) (positive : (j : ℕ) → j < g.groups → 0 < counts_in g j)
    (total : ℕ) (portions : List Portion) (shared : ArePortions g total g.places portions) where
  abbrev all_on : ℕ → ℕ
  all_on i = counts_in g (g.group i)

  group_is : (i : ℕ) → i < g.places → (portion_at portions i).group ≡ g.group i
  group_is i within = ap (λ (p : Portion). p.group) (shared.1 i within)

  whole_is : (i : ℕ) → i < g.places → (portion_at portions i).whole ≡ (g.count i * total) / all_on i
  whole_is i within = ap (λ (p : Portion). p.whole) (shared.1 i within)

  rest_is : (i : ℕ) → i < g.places → (portion_at portions i).rest ≡ (g.count i * total) % all_on i
  rest_is i within = ap (λ (p : Portion). p.rest) (shared.1 i within)

  some_on : (i : ℕ) → i < g.places → 0 < all_on i
  some_on i within = positive (g.group i) (inside i within)

  split : (i : ℕ) → i < g.places → (portion_at portions i).whole * all_on i + (portion_at portions i).rest ≡ g.count i * total
  split i within = rw (whole_is i within, rest_is i within) (div-add-mod' (g.count i * total) (all_on i))

  rest_small : (i : ℕ) → i < g.places → (portion_at portions i).rest < all_on i
  rest_small i within = rw (rest_is i within) (mod-lt (g.count i * total) (some_on i within))

  abbrev on : ℕ → ℕ → Bool
  on j i = (portion_at portions i).group == j

  on_is : (j i : ℕ) → i < g.places → on j i ≡ true → g.group i ≡ j
  on_is j i within e = sym (group_is i within) ∙ same_from (portion_at portions i).group j e

  times_here : (j : ℕ) → j < g.groups → sum_below (length portions) (λ i. if on j i then g.count i else 0) ≡ counts_in g j
  times_here j below =
      ap (λ n. sum_below n (λ i. if on j i then g.count i else 0)) shared.0
      ∙ sum_below-same _ _ (g.places) (λ i within. ap (λ b. if b == j then g.count i else 0) (group_is i within))

  at_least : (j i : ℕ) → i < length portions → on j i ≡ true → (portion_at portions i).whole * counts_in g j ≤ g.count i * total
  at_least j i within e =
      let in_all : i < g.places = omega (arith, within, shared.0) in
      subst (λ b. (portion_at portions i).whole * counts_in g b ≤ g.count i * total) (on_is j i in_all e) (omega (arith, split i in_all))

  at_most : (j i : ℕ) → i < length portions → on j i ≡ true → g.count i * total ≤ ((portion_at portions i).whole + 1) * counts_in g j
  at_most j i within e =
      let in_all : i < g.places = omega (arith, within, shared.0) in
      subst (λ b. g.count i * total ≤ ((portion_at portions i).whole + 1) * counts_in g b) (on_is j i in_all e) (omega (arith, split i in_all, rest_small i in_all))

  whole_within : (j : ℕ) → j < g.groups → whole_on portions j ≤ total
  whole_within j below =
      let le = sum_scaled_at_most (on j) (λ i. (portion_at portions i).whole) (λ i. g.count i) (counts_in g j) total (length portions) (at_least j) in
      let all = times_here j below in
      cancelled (whole_on portions j) total (counts_in g j) (omega (arith, le, ap (λ n. n * total) all)) (positive j below)

  whole_enough : (j : ℕ) → j < g.groups → total ≤ whole_on portions j + portions_on portions j
  whole_enough j below =
      let le = sum_scaled_at_most (on j) (λ i. g.count i) (λ i. (portion_at portions i).whole + 1) total (counts_in g j) (length portions) (at_most j) in
      let plus = sum_plus (on j) (λ i. (portion_at portions i).whole) (λ i. 1) (length portions) in
      let all = times_here j below in
      cancelled total (whole_on portions j + portions_on portions j) (counts_in g j)
      (omega (arith, le, ap (λ n. n * total) all, ap (λ n. n * counts_in g j) plus)) (positive j below)

  pub whole_small : (i : ℕ) → i < length portions → (portion_at portions i).whole ≤ total
  whole_small i within =
      let in_all : i < g.places = omega (arith, within, shared.0) in
      let times = count_within g i in_all in
      cancelled (portion_at portions i).whole total (all_on i) (omega (arith, split i in_all, scaled (g.count i) (all_on i) total times)) (some_on i in_all)
    where
      scaled : (a b t : ℕ) → a ≤ b → a * t ≤ b * t
      scaled a b zero le = omega arith
      scaled a b (suc t) le = omega (arith, scaled a b t le, le)

  none_rounded_up : (i : ℕ) → (portion_at portions i).rounded_up ≡ false
  none_rounded_up i = by (cases_lt i (length portions))
    where
      cases_lt : (k m : ℕ) → (k < m) ⊎ (m ≤ k)
      cases_lt zero zero = inr (omega arith)
      cases_lt zero (suc m) = inl (omega arith)
      cases_lt (suc k) zero = inr (omega arith)
      cases_lt (suc k) (suc m) = elim (cases_lt k m) [ inl l ↦ inl (omega (arith, l)) | inr g ↦ inr (omega (arith, g)) ]

      by : (i < length portions) ⊎ (length portions ≤ i) → (portion_at portions i).rounded_up ≡ false
      by (inl l) = ap (λ (p : Portion). p.rounded_up) (shared.1 i (omega (arith, l, shared.0)))
      by (inr g) = ap (λ (p : Portion). p.rounded_up) (get_or_past portions i _ g)

  pub are_whole : g.places ≤ 256 → total ≤ 1000000000 → AreWholeParts portions g.groups total
  are_whole few small = record {
    few = omega (arith, few, shared.0);
    small = λ i within. omega (arith, whole_small i within, small);
    within = whole_within;
    enough = whole_enough;
    none_rounded_up = none_rounded_up;
  }

  module _ (rounded_up : List Portion) (all : AreRoundedUpBelow portions rounded_up g.groups total) (units : List ℕ) (made : ArePortionUnits rounded_up g.places units) where
    unit_at : (i : ℕ) → i < g.places → slice_index units i ≡ portion_units (portion_at rounded_up i)
    unit_at i within = made.1 i within

    rounded_up_count : length rounded_up ≡ g.places
    rounded_up_count = all.same.count ∙ shared.0

    rounded_up_group : (i : ℕ) → i < g.places → (portion_at rounded_up i).group ≡ g.group i
    rounded_up_group i within = all.same.group i ∙ group_is i within

    pub given_on : AreFilled g total (slice_index units)
    given_on j below =
        ap (λ k. sum_below k (λ i. if g.group i == j then slice_index units i else 0)) (sym rounded_up_count)
        ∙ sum_below-same _ _ (length rounded_up) (λ i within.
        let in_all : i < g.places = omega (arith, within, rounded_up_count) in
        (λ k. if (sym (rounded_up_group i in_all)) k == j then unit_at i in_all k else 0))
        ∙ sum_plus (λ i. (portion_at rounded_up i).group == j) (λ i. (portion_at rounded_up i).whole) (λ i. if (portion_at rounded_up i).rounded_up then 1 else 0) (length rounded_up)
        ∙ all.given j below

    same_whole_of : (i : ℕ) → i < g.places → whole_of g total i ≡ (portion_at rounded_up i).whole
    same_whole_of i within = sym (whole_is i within) ∙ sym (all.same.whole i)

    same_rest_of : (i : ℕ) → i < g.places → rest_of g total i ≡ (portion_at rounded_up i).rest
    same_rest_of i within = sym (rest_is i within) ∙ sym (all.same.rest i)

    units_cases : (b : Bool) (w u : ℕ) → u ≡ w + (if b then 1 else 0) → ((b ≡ true) × (u ≡ w + 1)) ⊎ ((b ≡ false) × (u ≡ w))
    units_cases true w u e = inl (refl, e)
    units_cases false w u e = inr (refl, omega (arith, e))

    cases_of : (i : ℕ) → i < g.places → (((portion_at rounded_up i).rounded_up ≡ true) × (slice_index units i ≡ whole_of g total i + 1))
        ⊎ (((portion_at rounded_up i).rounded_up ≡ false) × (slice_index units i ≡ whole_of g total i))
    cases_of i within = units_cases (portion_at rounded_up i).rounded_up (whole_of g total i) (slice_index units i)
        (unit_at i within ∙ ap (λ w. w + (if (portion_at rounded_up i).rounded_up then 1 else 0)) (sym (same_whole_of i within)))

    pub apportioned : (unit : ℕ) → total ≡ unit → HasApportionedShares g unit total (slice_index units)
    apportioned unit is = record {
      total = is;
      each = λ i within. elim (cases_of i within) [ inl h ↦ inr h.1 | inr h ↦ inl h.1 ];
      together = given_on;
      largest = λ h i h_in i_in same up down.
          let is_up : (portion_at rounded_up h).rounded_up ≡ true = elim (cases_of h h_in) [ inl c ↦ c.0 | inr c ↦ absurd (omega (arith, c.1, up)) ] in
          let is_down : (portion_at rounded_up i).rounded_up ≡ false = elim (cases_of i i_in) [ inl c ↦ absurd (omega (arith, c.1, down)) | inr c ↦ c.0 ] in
          before h i h_in i_in (all.first h i (omega (arith, h_in, rounded_up_count)) (omega (arith, i_in, rounded_up_count))
          (rounded_up_group h h_in ∙ same ∙ sym (rounded_up_group i i_in)) is_up is_down);
    }
      where
        before : (h i : ℕ) → h < g.places → i < g.places → IsAhead rounded_up h i → RestComesBefore g total h i
        before h i h_in i_in (inl l) = inl (rw (same_rest_of h h_in, same_rest_of i i_in) l)
        before h i h_in i_in (inr l) = inr (same_rest_of h h_in ∙ l.0 ∙ sym (same_rest_of i i_in), l.1)

    -- without a unit nothing is left over, so none is rounded up
    module _ (least : (j : ℕ) → j < g.groups → counts_in g j ∣ total) where
      no_rest : (i : ℕ) → i < g.places → (portion_at portions i).rest ≡ 0
      no_rest i within = rest_is i within ∙ mod-eq-zero_of_dvd (all_on i) (divides_product (g.count i) (least (g.group i) (inside i within)))
        where
          divides_product : (a : ℕ) → all_on i ∣ total → all_on i ∣ a * total
          divides_product a d = dvd_trans (all_on i) d (dvd-mul_left total a)

      exactly : (j i : ℕ) → i < length portions → on j i ≡ true → g.count i * total ≤ (portion_at portions i).whole * counts_in g j
      exactly j i within e =
          let in_all : i < g.places = omega (arith, within, shared.0) in
          subst (λ b. g.count i * total ≤ (portion_at portions i).whole * counts_in g b) (on_is j i in_all e) (omega (arith, split i in_all, no_rest i in_all))

      all_whole : (j : ℕ) → j < g.groups → total ≤ whole_on portions j
      all_whole j below =
          let le = sum_scaled_at_most (on j) (λ i. g.count i) (λ i. (portion_at portions i).whole) total (counts_in g j) (length portions) (exactly j) in
          cancelled total (whole_on portions j) (counts_in g j) (omega (arith, le, ap (λ k. k * total) (times_here j below))) (positive j below)

      not_rounded_up : (i : ℕ) → i < g.places → portion_units (portion_at rounded_up i) ≡ (portion_at rounded_up i).whole
      not_rounded_up i within =
          let j = g.group i in
          let below : j < g.groups = inside i within in
          let none : rounded_up_on rounded_up j ≡ 0 = omega (arith, all.given j below, same_whole portions rounded_up j all.same, all_whole j below) in
          let in_rounded_up : i < length rounded_up = omega (arith, within, rounded_up_count) in
          let term = sum_at_least (λ k. if (portion_at rounded_up k).group == j then (if (portion_at rounded_up k).rounded_up then 1 else 0) else 0) (length rounded_up) i in_rounded_up in
          let here : ◌≡◌ {A = ℕ} (if (portion_at rounded_up i).group == j then (if (portion_at rounded_up i).rounded_up then 1 else 0) else 0) (if (portion_at rounded_up i).rounded_up then 1 else 0) =
          ap (λ b. if b then (if (portion_at rounded_up i).rounded_up then 1 else 0) else 0) (eq-eqb (portion_at rounded_up i).group j (rounded_up_group i within)) in
          omega (arith, none, term, here)

      pub exact_units : (i : ℕ) → i < g.places → slice_index units i * counts_in g (g.group i) ≡ g.count i * total
      exact_units i within =
          let is : slice_index units i ≡ (portion_at portions i).whole = unit_at i within ∙ not_rounded_up i within ∙ all.same.whole i in
          (λ k. is k * counts_in g (g.group i)) ∙ omega (arith, split i within, no_rest i within)

    pub has_shares : (asked : Option ℕ) → IsSharedTotal g asked total → HasShares g asked total (slice_index units)
    has_shares None is = record { total = is; each = exact_units (λ j below. is.0.1 j below) }
    has_shares (Some unit) is = apportioned unit is
