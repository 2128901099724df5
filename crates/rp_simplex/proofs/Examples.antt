-- The run at worked programs, tableau by tableau.
use Prim.Native.Nat.{◌∣◌}
use Rattle.std.proofs.Common.{◌≡◌, ◌≢◌, ℕ, zero, suc, ◌+◌, ◌-◌, ◌*◌, ◌%◌, ◌^◌, ◌<◌, ◌≤◌, List, [], ◌∷◌, slice_index, slice_index_or, ℤ, pos, negsuc, neg_ℤ, ◌*ℤ◌, ◌<ℤ◌, ◌≤ℤ◌, Bool, true, false, ◌&&◌, eqb, ltb, inl, inr, map, refl, sym, subst, arith, lit<, lit≤}
use Rattle.std.specs.Int.RustNames.{unsigned_abs}
use Rattle.std.specs.Ordering.{int_eq}
use Rattle.std.specs.List.Sorted.{IsStrictlyIncreasing}
use Rattle.std.proofs.lemmas.Bool.{cases_eq, eqb-true, ltb-true}
use Rattle.std.proofs.lemmas.Bool.Decides.{Decides-int_eq}
use Rattle.std.proofs.lemmas.Nat.Gcd.{dvd_of_mod-eq-zero}
use Rattle.std.proofs.lemmas.List.Elements.{All-nil, All-cons}
use lib.Signed.{le_z, le_z_yes, lt_z_yes}
use Rattle.std.proofs.lemmas.Int.{ints}
use Rattle.rp_farkas.specs.declared.entry.Entry.{Entry}
use Rattle.rp_farkas.specs.LinearProgram.{LinearProgram}
use Rattle.rp_farkas.specs.Listed.{listed_program}
use Rattle.rp_farkas.specs.Listing.{IsListing, numerator_at}
use Rattle.rp_simplex.specs.ExactTableau.{ExactTableau}
use Rattle.rp_simplex.specs.FirstTableau.{IsFirstTableau, first_entry}
use Rattle.rp_simplex.specs.Lexicographic.{IsLexLess}
use Rattle.rp_simplex.specs.Choice.{IsEntering, IsLeaving}
use Rattle.rp_simplex.specs.Width.{IsWithinWidth}
use Rattle.rp_simplex.specs.Pivot.{cleared, IsPivot}
use Rattle.rp_simplex.specs.Run.{begins, pivots}
use Rattle.rp_simplex.specs.Readout.{IsPointAt, IsRayAt}
use Rattle.rp_simplex.specs.Outcome.{EndsOptimal, EndsUnbounded, EndsPastWidth}

-- ---- tests of every place below a bound
abbrev test_below : ℕ → (ℕ → Bool) → Bool
test_below zero t = true
test_below (suc n) t = t n && test_below n t

both_true : (a b : Bool) → a && b ≡ true → (a ≡ true) × (b ≡ true)
both_true true b h = (refl, h)
both_true false b h = cc

holds_below : (n : ℕ) (t : ℕ → Bool) → test_below n t ≡ true → (i : ℕ) → i < n → t i ≡ true
holds_below zero t h i l = absurd (omega arith)
holds_below (suc n) t h i l =
    let parts = both_true (t n) (test_below n t) h in
    elim (cases_eq i n) [
      | inl e ↦ subst (λ k. t k ≡ true) (sym e) parts.0
      | inr ne ↦ holds_below n t parts.1 i (omega arith)
    ]

abbrev grid_test : ℕ → ℕ → (ℕ → ℕ → Bool) → Bool
grid_test rows width t = test_below (suc rows) (λ i. test_below width (t i))

holds_on_grid : (rows width : ℕ) (t : ℕ → ℕ → Bool) → grid_test rows width t ≡ true → (i j : ℕ) → i ≤ rows → j < width → t i j ≡ true
holds_on_grid rows width t h i j hi hj = holds_below width (t i) (holds_below (suc rows) (λ k. test_below width (t k)) h i (omega arith)) j hj

same_on_grid : (rows width : ℕ) (f g : ℕ → ℕ → ℤ) → grid_test rows width (λ i j. int_eq (f i j) (g i j)) ≡ true → (i j : ℕ) → i ≤ rows → j < width → f i j ≡ g i j
same_on_grid rows width f g h i j hi hj = (Decides-int_eq (f i j) (g i j)).0 (holds_on_grid rows width (λ i j. int_eq (f i j) (g i j)) h i j hi hj)

divides_on_grid : (rows width k : ℕ) (f : ℕ → ℕ → ℤ) → grid_test rows width (λ i j. eqb (unsigned_abs (f i j) % k) 0) ≡ true → (i j : ℕ) → i ≤ rows → j < width → k ∣ unsigned_abs (f i j)
divides_on_grid rows width k f h i j hi hj = dvd_of_mod-eq-zero k (eqb-true (unsigned_abs (f i j) % k) 0 (holds_on_grid rows width (λ i j. eqb (unsigned_abs (f i j) % k) 0) h i j hi hj))

fits_on_grid : (rows width : ℕ) (f : ℕ → ℕ → ℤ) → grid_test rows width (λ i j. ltb (unsigned_abs (f i j)) (2 ^ 63)) ≡ true → (i j : ℕ) → i ≤ rows → j < width → unsigned_abs (f i j) < 2 ^ 63
fits_on_grid rows width f h i j hi hj = ltb-true (unsigned_abs (f i j)) (2 ^ 63) (holds_on_grid rows width (λ i j. ltb (unsigned_abs (f i j)) (2 ^ 63)) h i j hi hj)

not_negative_before : (f : ℕ → ℤ) (n : ℕ) → test_below n (λ j. le_z (pos 0) (f (suc j))) ≡ true → (j : ℕ) → 1 ≤ j → j < suc n → pos 0 ≤ℤ f j
not_negative_before f n h zero one l = absurd (omega arith)
not_negative_before f n h (suc j) one l =
    let test : le_z (pos 0) (f (suc j)) ≡ true = holds_below n (λ k. le_z (pos 0) (f (suc k))) h j (omega arith) in
    omega (arith, ints)

below_one : (P : ℕ → Type 0) → P 0 → (i : ℕ) → i < 1 → P i
below_one P p zero h = p
below_one P p (suc i) h = absurd (omega arith)

below_two : (P : ℕ → Type 0) → P 0 → P 1 → (i : ℕ) → i < 2 → P i
below_two P p q zero h = p
below_two P p q (suc zero) h = q
below_two P p q (suc (suc i)) h = absurd (omega arith)

before_three : (P : ℕ → Type 0) → P 1 → P 2 → (j : ℕ) → 1 ≤ j → j < 3 → P j
before_three P p q zero one l = absurd (omega arith)
before_three P p q (suc zero) one l = p
before_three P p q (suc (suc zero)) one l = q
before_three P p q (suc (suc (suc j))) one l = absurd (omega arith)

before_four : (P : ℕ → Type 0) → P 1 → P 2 → P 3 → (j : ℕ) → 1 ≤ j → j < 4 → P j
before_four P p q r zero one l = absurd (omega arith)
before_four P p q r (suc zero) one l = p
before_four P p q r (suc (suc zero)) one l = q
before_four P p q r (suc (suc (suc zero))) one l = r
before_four P p q r (suc (suc (suc (suc j)))) one l = absurd (omega arith)

before_five : (P : ℕ → Type 0) → P 1 → P 2 → P 3 → P 4 → (j : ℕ) → 1 ≤ j → j < 5 → P j
before_five P p q r s zero one l = absurd (omega arith)
before_five P p q r s (suc zero) one l = p
before_five P p q r s (suc (suc zero)) one l = q
before_five P p q r s (suc (suc (suc zero))) one l = r
before_five P p q r s (suc (suc (suc (suc zero)))) one l = s
before_five P p q r s (suc (suc (suc (suc (suc j))))) one l = absurd (omega arith)

-- a tableau read from a list by rows
abbrev pub listed_tableau : ℕ → ℕ → List ℕ → List ℤ → ExactTableau
listed_tableau width den basis xs = record { den = den; at = λ i j. slice_index_or xs (i * width + j) (pos 0); basis = slice_index basis }

-- ---- greatest y1 + y2 with 4 y1 + y2 ≤ 1 and 3 y1 + 4 y2 ≤ 1
abbrev pub two_rows : LinearProgram
two_rows = listed_program 2 2 (pos 4 ∷ pos 1 ∷ pos 3 ∷ pos 4 ∷ []) (pos 1 ∷ pos 1 ∷ []) (pos 1 ∷ pos 1 ∷ [])

abbrev first_of_two : ExactTableau
first_of_two = listed_tableau 5 1 (1 ∷ 2 ∷ [])
    (pos 1 ∷ pos 1 ∷ pos 0 ∷ pos 4 ∷ pos 1 ∷ pos 1 ∷ pos 0 ∷ pos 1 ∷ pos 3 ∷ pos 4 ∷ pos 0 ∷ pos 0 ∷ pos 0 ∷ negsuc 0 ∷ negsuc 0 ∷ [])

-- over 4
abbrev second_of_two : ExactTableau
second_of_two = listed_tableau 5 4 (3 ∷ 2 ∷ [])
    (pos 1 ∷ pos 1 ∷ pos 0 ∷ pos 4 ∷ pos 1 ∷ pos 1 ∷ negsuc 2 ∷ pos 4 ∷ pos 0 ∷ pos 13 ∷ pos 1 ∷ pos 1 ∷ pos 0 ∷ pos 0 ∷ negsuc 2 ∷ [])

-- over 13, after the common divisor 4 is taken out
abbrev third_of_two : ExactTableau
third_of_two = listed_tableau 5 13 (3 ∷ 4 ∷ [])
    (pos 3 ∷ pos 4 ∷ negsuc 0 ∷ pos 13 ∷ pos 0 ∷ pos 1 ∷ negsuc 2 ∷ pos 4 ∷ pos 0 ∷ pos 13 ∷ pos 4 ∷ pos 1 ∷ pos 3 ∷ pos 0 ∷ pos 0 ∷ [])

two-first : IsFirstTableau two_rows first_of_two
two-first = record {
  over_one = refl;
  entries = same_on_grid 2 5 first_of_two.at (first_entry two_rows) refl;
  slacks = below_two (λ i. first_of_two.basis i ≡ suc i) refl refl;
}

two-within_first : IsWithinWidth 2 5 first_of_two
two-within_first = record { den_fits = lit< tt; entries_fit = fits_on_grid 2 5 first_of_two.at refl }

two-within_second : IsWithinWidth 2 5 second_of_two
two-within_second = record { den_fits = lit< tt; entries_fit = fits_on_grid 2 5 second_of_two.at refl }

two-within_third : IsWithinWidth 2 5 third_of_two
two-within_third = record { den_fits = lit< tt; entries_fit = fits_on_grid 2 5 third_of_two.at refl }

two-enters_first : IsEntering 2 5 first_of_two 3
two-enters_first = record {
  after_right_sides = lit≤ tt;
  in_width = lit< tt;
  negative = lt_z_yes tt;
  first = before_three (λ j. pos 0 ≤ℤ first_of_two.at 2 j) (le_z_yes tt) (le_z_yes tt);
}

two-least_first : (i : ℕ) → i < 2 → i ≢ 0 → pos 0 <ℤ first_of_two.at i 3 → IsLexLess 5 (λ j. first_of_two.at i 3 *ℤ first_of_two.at 0 j) (λ j. first_of_two.at 0 3 *ℤ first_of_two.at i j)
two-least_first zero l ne h = absurd (ne refl)
two-least_first (suc zero) l ne h = record { place = 0; in_range = lit< tt; same_before = λ k m. absurd (omega arith); less = lt_z_yes tt }
two-least_first (suc (suc i)) l ne h = absurd (omega arith)

two-leaves_first : IsLeaving 2 5 first_of_two 3 0
two-leaves_first = record { in_rows = lit< tt; positive = lt_z_yes tt; least = two-least_first }

two-pivot_first : IsPivot 2 5 first_of_two 0 3 second_of_two
two-pivot_first = record {
  divisor = 1;
  divides = record { divides_den = dvd_of_mod-eq-zero 1 refl; divides_entries = divides_on_grid 2 5 1 (cleared first_of_two 0 3) refl };
  greatest = λ k h. h.divides_entries 0 0 (lit≤ tt) (lit< tt);
  den = refl;
  entries = same_on_grid 2 5 (cleared first_of_two 0 3) (λ i j. second_of_two.at i j *ℤ pos 1) refl;
  enters = refl;
  stays = λ i hi ne. below_two (λ k. k ≢ 0 → second_of_two.basis k ≡ first_of_two.basis k) (λ off. absurd (off refl)) (λ off. refl) i hi ne;
}

two-enters_second : IsEntering 2 5 second_of_two 4
two-enters_second = record {
  after_right_sides = lit≤ tt;
  in_width = lit< tt;
  negative = lt_z_yes tt;
  first = before_four (λ j. pos 0 ≤ℤ second_of_two.at 2 j) (le_z_yes tt) (le_z_yes tt) (le_z_yes tt);
}

two-least_second : (i : ℕ) → i < 2 → i ≢ 1 → pos 0 <ℤ second_of_two.at i 4 → IsLexLess 5 (λ j. second_of_two.at i 4 *ℤ second_of_two.at 1 j) (λ j. second_of_two.at 1 4 *ℤ second_of_two.at i j)
two-least_second zero l ne h = record { place = 0; in_range = lit< tt; same_before = λ k m. absurd (omega arith); less = lt_z_yes tt }
two-least_second (suc zero) l ne h = absurd (ne refl)
two-least_second (suc (suc i)) l ne h = absurd (omega arith)

two-leaves_second : IsLeaving 2 5 second_of_two 4 1
two-leaves_second = record { in_rows = lit< tt; positive = lt_z_yes tt; least = two-least_second }

two-pivot_second : IsPivot 2 5 second_of_two 1 4 third_of_two
two-pivot_second = record {
  divisor = 4;
  divides = record { divides_den = dvd_of_mod-eq-zero 4 refl; divides_entries = divides_on_grid 2 5 4 (cleared second_of_two 1 4) refl };
  greatest = λ k h. h.divides_entries 2 1 (lit≤ tt) (lit< tt);
  den = refl;
  entries = same_on_grid 2 5 (cleared second_of_two 1 4) (λ i j. third_of_two.at i j *ℤ pos 4) refl;
  enters = refl;
  stays = λ i hi ne. below_two (λ k. k ≢ 1 → third_of_two.basis k ≡ second_of_two.basis k) (λ off. refl) (λ off. absurd (off refl)) i hi ne;
}

abbrev two_point : List Entry
two_point = record { at = 0; value = 3 } ∷ record { at = 1; value = 1 } ∷ []

two-rising : IsStrictlyIncreasing (map (λ (e : Entry). e.at) two_point)
two-rising zero l = lit< tt
two-rising (suc k) l = absurd (omega arith)

two-listed : IsListing 2 two_point
two-listed = record {
  rising = two-rising;
  columns = All-cons (λ (e : Entry). e.at < 2) (record { at = 0; value = 3 }) (record { at = 1; value = 1 } ∷ []) (lit< tt) (All-cons (λ (e : Entry). e.at < 2) (record { at = 1; value = 1 }) [] (lit< tt) (All-nil (λ (e : Entry). e.at < 2)));
  positive = All-cons (λ (e : Entry). 0 < e.value) (record { at = 0; value = 3 }) (record { at = 1; value = 1 } ∷ []) (lit< tt) (All-cons (λ (e : Entry). 0 < e.value) (record { at = 1; value = 1 }) [] (lit< tt) (All-nil (λ (e : Entry). 0 < e.value)));
  fitting = All-cons (λ (e : Entry). e.value < 2 ^ 63) (record { at = 0; value = 3 }) (record { at = 1; value = 1 } ∷ []) (lit< tt) (All-cons (λ (e : Entry). e.value < 2 ^ 63) (record { at = 1; value = 1 }) [] (lit< tt) (All-nil (λ (e : Entry). e.value < 2 ^ 63)));
}

-- rows 1 and 2 have the program's columns 1 and 2 as their basic columns
two-basic : (j i : ℕ) → j < 2 → i < 2 → third_of_two.basis i ≡ suc (2 + j) → pos (numerator_at two_point j) ≡ third_of_two.at i 0
two-basic zero zero hj hi e = refl
two-basic (suc zero) (suc zero) hj hi e = refl
two-basic zero (suc zero) hj hi e = absurd (omega arith)
two-basic (suc zero) zero hj hi e = absurd (omega arith)
two-basic (suc (suc j)) i hj hi e = absurd (omega arith)
two-basic zero (suc (suc i)) hj hi e = absurd (omega arith)
two-basic (suc zero) (suc (suc i)) hj hi e = absurd (omega arith)

two-others : (j : ℕ) → j < 2 → ((i : ℕ) → i < 2 → third_of_two.basis i ≢ suc (2 + j)) → 0 ≢ suc (2 + j) → numerator_at two_point j ≡ 0
two-others zero hj none ne = absurd (none 0 (lit< tt) refl)
two-others (suc zero) hj none ne = absurd (none 1 (lit< tt) refl)
two-others (suc (suc j)) hj none ne = absurd (omega arith)

two-shown : IsPointAt two_rows third_of_two (numerator_at two_point)
two-shown = record { basic = two-basic; entering = λ j hj e. absurd (omega arith); others = two-others }

-- the run ends there, with y = (3/13, 1/13) and x = (1/13, 3/13)
pub two_rows-ends : EndsOptimal two_rows (record { den = 13; y = two_point; x = 1 ∷ 3 ∷ [] })
two_rows-ends = record {
  steps = 2;
  last = third_of_two;
  reached = pivots (pivots (begins two-first) two-within_first two-enters_first two-leaves_first two-pivot_first) two-within_second two-enters_second two-leaves_second two-pivot_second;
  within = two-within_third;
  optimal = λ j one l. before_five (λ k. pos 0 ≤ℤ third_of_two.at 2 k) (le_z_yes tt) (le_z_yes tt) (le_z_yes tt) (le_z_yes tt) j one l;
  den = refl;
  y_listed = two-listed;
  y_at = two-shown;
  x_length = refl;
  x_at = below_two (λ s. pos (slice_index (1 ∷ 3 ∷ []) s) ≡ third_of_two.at 2 (suc s)) refl refl;
}

-- ---- a program whose first pivot passes the width: once the denominator is 2^50, one entry is 2^100 - 2^50 + 1
abbrev pub wide_rows : LinearProgram
wide_rows = listed_program 2 2 (pos (2 ^ 50) ∷ pos 1 ∷ pos (2 ^ 50 - 1) ∷ pos (2 ^ 50) ∷ []) (pos 1 ∷ pos 1 ∷ []) (pos 1 ∷ pos 1 ∷ [])

abbrev first_of_wide : ExactTableau
first_of_wide = listed_tableau 5 1 (1 ∷ 2 ∷ [])
    (pos 1 ∷ pos 1 ∷ pos 0 ∷ pos (2 ^ 50) ∷ pos 1 ∷ pos 1 ∷ pos 0 ∷ pos 1 ∷ pos (2 ^ 50 - 1) ∷ pos (2 ^ 50) ∷ pos 0 ∷ pos 0 ∷ pos 0 ∷ negsuc 0 ∷ negsuc 0 ∷ [])

abbrev second_of_wide : ExactTableau
second_of_wide = listed_tableau 5 (2 ^ 50) (3 ∷ 2 ∷ [])
    (pos 1 ∷ pos 1 ∷ pos 0 ∷ pos (2 ^ 50) ∷ pos 1 ∷ pos 1 ∷ negsuc (2 ^ 50 - 2) ∷ pos (2 ^ 50) ∷ pos 0 ∷ pos (2 ^ 100 - 2 ^ 50 + 1) ∷ pos 1 ∷ pos 1 ∷ pos 0 ∷ pos 0 ∷ negsuc (2 ^ 50 - 2) ∷ [])

wide-first : IsFirstTableau wide_rows first_of_wide
wide-first = record {
  over_one = refl;
  entries = same_on_grid 2 5 first_of_wide.at (first_entry wide_rows) refl;
  slacks = below_two (λ i. first_of_wide.basis i ≡ suc i) refl refl;
}

wide-enters : IsEntering 2 5 first_of_wide 3
wide-enters = record {
  after_right_sides = lit≤ tt;
  in_width = lit< tt;
  negative = lt_z_yes tt;
  first = before_three (λ j. pos 0 ≤ℤ first_of_wide.at 2 j) (le_z_yes tt) (le_z_yes tt);
}

wide-least : (i : ℕ) → i < 2 → i ≢ 0 → pos 0 <ℤ first_of_wide.at i 3 → IsLexLess 5 (λ j. first_of_wide.at i 3 *ℤ first_of_wide.at 0 j) (λ j. first_of_wide.at 0 3 *ℤ first_of_wide.at i j)
wide-least zero l ne h = absurd (ne refl)
wide-least (suc zero) l ne h = record { place = 0; in_range = lit< tt; same_before = λ k m. absurd (omega arith); less = lt_z_yes tt }
wide-least (suc (suc i)) l ne h = absurd (omega arith)

wide-leaves : IsLeaving 2 5 first_of_wide 3 0
wide-leaves = record { in_rows = lit< tt; positive = lt_z_yes tt; least = wide-least }

wide-pivot : IsPivot 2 5 first_of_wide 0 3 second_of_wide
wide-pivot = record {
  divisor = 1;
  divides = record { divides_den = dvd_of_mod-eq-zero 1 refl; divides_entries = divides_on_grid 2 5 1 (cleared first_of_wide 0 3) refl };
  greatest = λ k h. h.divides_entries 0 0 (lit≤ tt) (lit< tt);
  den = refl;
  entries = same_on_grid 2 5 (cleared first_of_wide 0 3) (λ i j. second_of_wide.at i j *ℤ pos 1) refl;
  enters = refl;
  stays = λ i hi ne. below_two (λ k. k ≢ 0 → second_of_wide.basis k ≡ first_of_wide.basis k) (λ off. absurd (off refl)) (λ off. refl) i hi ne;
}

pub wide_rows-passes : EndsPastWidth wide_rows 1
wide_rows-passes = record {
  steps = 1;
  last = second_of_wide;
  reached = pivots (begins wide-first) (record { den_fits = lit< tt; entries_fit = fits_on_grid 2 5 first_of_wide.at refl }) wide-enters wide-leaves wide-pivot;
  passes = λ w. let over : 2 ^ 100 - 2 ^ 50 + 1 < 2 ^ 63 = w.entries_fit 1 4 (lit≤ tt) (lit< tt) in absurd (omega arith);
  step_is = refl;
}

-- ---- greatest y with -y ≤ 1: the run ends at once, with the ray 1 from the point 0
abbrev pub one_row : LinearProgram
one_row = listed_program 1 1 (negsuc 0 ∷ []) (pos 1 ∷ []) (pos 1 ∷ [])

abbrev first_of_one : ExactTableau
first_of_one = listed_tableau 3 1 (1 ∷ []) (pos 1 ∷ pos 1 ∷ negsuc 0 ∷ pos 0 ∷ pos 0 ∷ negsuc 0 ∷ [])

one-shown_ray : IsRayAt one_row first_of_one 2 (numerator_at (record { at = 0; value = 1 } ∷ []))
one-shown_ray = record {
  basic = λ j i hj hi e. below_one (λ k. first_of_one.basis k ≡ suc (1 + j) → pos (numerator_at (record { at = 0; value = 1 } ∷ []) j) ≡ neg_ℤ (first_of_one.at k 2)) (λ q. absurd (omega arith)) i hi e;
  entering = λ j hj e. below_one (λ k. pos (numerator_at (record { at = 0; value = 1 } ∷ []) k) ≡ pos 1) refl j hj;
  others = λ j hj none ne. below_one (λ k. 2 ≢ suc (1 + k) → numerator_at (record { at = 0; value = 1 } ∷ []) k ≡ 0) (λ off. absurd (off refl)) j hj ne;
}

one-shown_point : IsPointAt one_row first_of_one (numerator_at [])
one-shown_point = record {
  basic = λ j i hj hi e. below_one (λ k. first_of_one.basis k ≡ suc (1 + j) → pos (numerator_at [] j) ≡ first_of_one.at k 0) (λ q. absurd (omega arith)) i hi e;
  entering = λ j hj e. absurd (omega arith);
  others = λ j hj none ne. refl;
}

one-listed : IsListing 1 (record { at = 0; value = 1 } ∷ [])
one-listed = record {
  rising = λ k l. absurd (omega arith);
  columns = All-cons (λ (e : Entry). e.at < 1) (record { at = 0; value = 1 }) [] (lit< tt) (All-nil (λ (e : Entry). e.at < 1));
  positive = All-cons (λ (e : Entry). 0 < e.value) (record { at = 0; value = 1 }) [] (lit< tt) (All-nil (λ (e : Entry). 0 < e.value));
  fitting = All-cons (λ (e : Entry). e.value < 2 ^ 63) (record { at = 0; value = 1 }) [] (lit< tt) (All-nil (λ (e : Entry). e.value < 2 ^ 63));
}

one-no_points : IsListing 1 []
one-no_points = record {
  rising = λ k l. absurd (omega arith);
  columns = All-nil (λ (e : Entry). e.at < 1);
  positive = All-nil (λ (e : Entry). 0 < e.value);
  fitting = All-nil (λ (e : Entry). e.value < 2 ^ 63);
}

one-first : IsFirstTableau one_row first_of_one
one-first = record {
  over_one = refl;
  entries = same_on_grid 1 3 first_of_one.at (first_entry one_row) refl;
  slacks = below_one (λ i. first_of_one.basis i ≡ suc i) refl;
}

before_two : (P : ℕ → Type 0) → P 1 → (j : ℕ) → 1 ≤ j → j < 2 → P j
before_two P p zero one l = absurd (omega arith)
before_two P p (suc zero) one l = p
before_two P p (suc (suc j)) one l = absurd (omega arith)

pub one_row-ends : EndsUnbounded one_row 1 [] (record { at = 0; value = 1 } ∷ [])
one_row-ends = record {
  steps = 0;
  last = first_of_one;
  column = 2;
  reached = begins one-first;
  within = record { den_fits = lit< tt; entries_fit = fits_on_grid 1 3 first_of_one.at refl };
  entering = record { after_right_sides = lit≤ tt; in_width = lit< tt; negative = lt_z_yes tt; first = before_two (λ j. pos 0 ≤ℤ first_of_one.at 1 j) (le_z_yes tt) };
  unbounded = below_one (λ i. first_of_one.at i 2 ≤ℤ pos 0) (le_z_yes tt);
  same_den = refl;
  point_listed = one-no_points;
  point_at = one-shown_point;
  ray_listed = one-listed;
  ray_at = one-shown_ray;
}

-- ---- the columns (1, 2), (2, 1), (1, 1) and (-1, -1) with the right sides (1, 0) and the objective (4, 4, 3, -3), whose
-- run has three pivots; in the first two the least ratio is 0
abbrev pub four_columns : LinearProgram
four_columns = listed_program 2 4 (pos 1 ∷ pos 2 ∷ pos 1 ∷ negsuc 0 ∷ pos 2 ∷ pos 1 ∷ pos 1 ∷ negsuc 0 ∷ []) (pos 1 ∷ pos 0 ∷ []) (pos 4 ∷ pos 4 ∷ pos 3 ∷ negsuc 2 ∷ [])

abbrev first_of_four : ExactTableau
first_of_four = listed_tableau 7 1 (1 ∷ 2 ∷ []) (pos 1 ∷ pos 1 ∷ pos 0 ∷ pos 1 ∷ pos 2 ∷ pos 1 ∷ negsuc 0 ∷ pos 0 ∷ pos 0 ∷ pos 1 ∷ pos 2 ∷ pos 1 ∷ pos 1 ∷ negsuc 0 ∷ pos 0 ∷ pos 0 ∷ pos 0 ∷ negsuc 3 ∷ negsuc 3 ∷ negsuc 2 ∷ pos 3 ∷ [])

four-within_first : IsWithinWidth 2 7 first_of_four
four-within_first = record { den_fits = lit< tt; entries_fit = fits_on_grid 2 7 first_of_four.at refl }

abbrev second_of_four : ExactTableau
second_of_four = listed_tableau 7 2 (1 ∷ 3 ∷ []) (pos 2 ∷ pos 2 ∷ negsuc 0 ∷ pos 0 ∷ pos 3 ∷ pos 1 ∷ negsuc 0 ∷ pos 0 ∷ pos 0 ∷ pos 1 ∷ pos 2 ∷ pos 1 ∷ pos 1 ∷ negsuc 0 ∷ pos 0 ∷ pos 0 ∷ pos 4 ∷ pos 0 ∷ negsuc 3 ∷ negsuc 1 ∷ pos 2 ∷ [])

four-within_second : IsWithinWidth 2 7 second_of_four
four-within_second = record { den_fits = lit< tt; entries_fit = fits_on_grid 2 7 second_of_four.at refl }

abbrev third_of_four : ExactTableau
third_of_four = listed_tableau 7 1 (1 ∷ 4 ∷ []) (pos 1 ∷ pos 1 ∷ negsuc 1 ∷ negsuc 2 ∷ pos 0 ∷ negsuc 0 ∷ pos 1 ∷ pos 0 ∷ pos 0 ∷ pos 1 ∷ pos 2 ∷ pos 1 ∷ pos 1 ∷ negsuc 0 ∷ pos 0 ∷ pos 0 ∷ pos 4 ∷ pos 4 ∷ pos 0 ∷ pos 1 ∷ negsuc 0 ∷ [])

four-within_third : IsWithinWidth 2 7 third_of_four
four-within_third = record { den_fits = lit< tt; entries_fit = fits_on_grid 2 7 third_of_four.at refl }

abbrev fourth_of_four : ExactTableau
fourth_of_four = listed_tableau 7 1 (6 ∷ 4 ∷ []) (pos 1 ∷ pos 1 ∷ negsuc 1 ∷ negsuc 2 ∷ pos 0 ∷ negsuc 0 ∷ pos 1 ∷ pos 1 ∷ pos 1 ∷ negsuc 0 ∷ negsuc 0 ∷ pos 1 ∷ pos 0 ∷ pos 0 ∷ pos 1 ∷ pos 1 ∷ pos 2 ∷ pos 1 ∷ pos 0 ∷ pos 0 ∷ pos 0 ∷ [])

four-within_fourth : IsWithinWidth 2 7 fourth_of_four
four-within_fourth = record { den_fits = lit< tt; entries_fit = fits_on_grid 2 7 fourth_of_four.at refl }

four-first : IsFirstTableau four_columns first_of_four
four-first = record {
  over_one = refl;
  entries = same_on_grid 2 7 first_of_four.at (first_entry four_columns) refl;
  slacks = below_two (λ i. first_of_four.basis i ≡ suc i) refl refl;
}

four-enters_first : IsEntering 2 7 first_of_four 3
four-enters_first = record {
  after_right_sides = lit≤ tt;
  in_width = lit< tt;
  negative = lt_z_yes tt;
  first = not_negative_before (first_of_four.at 2) 2 refl;
}

four-least_first : (i : ℕ) → i < 2 → i ≢ 1 → pos 0 <ℤ first_of_four.at i 3 → IsLexLess 7 (λ j. first_of_four.at i 3 *ℤ first_of_four.at 1 j) (λ j. first_of_four.at 1 3 *ℤ first_of_four.at i j)
four-least_first zero l ne h = record { place = 0; in_range = lit< tt; same_before = λ k m. absurd (omega arith); less = lt_z_yes tt }
four-least_first (suc zero) l ne h = absurd (ne refl)
four-least_first (suc (suc i)) l ne h = absurd (omega arith)

four-leaves_first : IsLeaving 2 7 first_of_four 3 1
four-leaves_first = record { in_rows = lit< tt; positive = lt_z_yes tt; least = four-least_first }

four-pivot_first : IsPivot 2 7 first_of_four 1 3 second_of_four
four-pivot_first = record {
  divisor = 1;
  divides = record { divides_den = dvd_of_mod-eq-zero 1 refl; divides_entries = divides_on_grid 2 7 1 (cleared first_of_four 1 3) refl };
  greatest = λ k h. h.divides_entries 0 2 (lit≤ tt) (lit< tt);
  den = refl;
  entries = same_on_grid 2 7 (cleared first_of_four 1 3) (λ i j. second_of_four.at i j *ℤ pos 1) refl;
  enters = refl;
  stays = λ i hi ne. below_two (λ k. k ≢ 1 → second_of_four.basis k ≡ first_of_four.basis k) (λ off. refl) (λ off. absurd (off refl)) i hi ne;
}

four-enters_second : IsEntering 2 7 second_of_four 4
four-enters_second = record {
  after_right_sides = lit≤ tt;
  in_width = lit< tt;
  negative = lt_z_yes tt;
  first = not_negative_before (second_of_four.at 2) 3 refl;
}

four-least_second : (i : ℕ) → i < 2 → i ≢ 1 → pos 0 <ℤ second_of_four.at i 4 → IsLexLess 7 (λ j. second_of_four.at i 4 *ℤ second_of_four.at 1 j) (λ j. second_of_four.at 1 4 *ℤ second_of_four.at i j)
four-least_second zero l ne h = record { place = 0; in_range = lit< tt; same_before = λ k m. absurd (omega arith); less = lt_z_yes tt }
four-least_second (suc zero) l ne h = absurd (ne refl)
four-least_second (suc (suc i)) l ne h = absurd (omega arith)

four-leaves_second : IsLeaving 2 7 second_of_four 4 1
four-leaves_second = record { in_rows = lit< tt; positive = lt_z_yes tt; least = four-least_second }

four-pivot_second : IsPivot 2 7 second_of_four 1 4 third_of_four
four-pivot_second = record {
  divisor = 2;
  divides = record { divides_den = dvd_of_mod-eq-zero 2 refl; divides_entries = divides_on_grid 2 7 2 (cleared second_of_four 1 4) refl };
  greatest = λ k h. h.divides_entries 0 0 (lit≤ tt) (lit< tt);
  den = refl;
  entries = same_on_grid 2 7 (cleared second_of_four 1 4) (λ i j. third_of_four.at i j *ℤ pos 2) refl;
  enters = refl;
  stays = λ i hi ne. below_two (λ k. k ≢ 1 → third_of_four.basis k ≡ second_of_four.basis k) (λ off. refl) (λ off. absurd (off refl)) i hi ne;
}

four-enters_third : IsEntering 2 7 third_of_four 6
four-enters_third = record {
  after_right_sides = lit≤ tt;
  in_width = lit< tt;
  negative = lt_z_yes tt;
  first = not_negative_before (third_of_four.at 2) 5 refl;
}

four-least_third : (i : ℕ) → i < 2 → i ≢ 0 → pos 0 <ℤ third_of_four.at i 6 → IsLexLess 7 (λ j. third_of_four.at i 6 *ℤ third_of_four.at 0 j) (λ j. third_of_four.at 0 6 *ℤ third_of_four.at i j)
four-least_third zero l ne h = absurd (ne refl)
four-least_third (suc zero) l ne h = absurd (omega (arith, ints))
four-least_third (suc (suc i)) l ne h = absurd (omega arith)

four-leaves_third : IsLeaving 2 7 third_of_four 6 0
four-leaves_third = record { in_rows = lit< tt; positive = lt_z_yes tt; least = four-least_third }

four-pivot_third : IsPivot 2 7 third_of_four 0 6 fourth_of_four
four-pivot_third = record {
  divisor = 1;
  divides = record { divides_den = dvd_of_mod-eq-zero 1 refl; divides_entries = divides_on_grid 2 7 1 (cleared third_of_four 0 6) refl };
  greatest = λ k h. h.divides_entries 0 0 (lit≤ tt) (lit< tt);
  den = refl;
  entries = same_on_grid 2 7 (cleared third_of_four 0 6) (λ i j. fourth_of_four.at i j *ℤ pos 1) refl;
  enters = refl;
  stays = λ i hi ne. below_two (λ k. k ≢ 0 → fourth_of_four.basis k ≡ third_of_four.basis k) (λ off. absurd (off refl)) (λ off. refl) i hi ne;
}

abbrev four_point : List Entry
four_point = record { at = 1; value = 1 } ∷ record { at = 3; value = 1 } ∷ []

four-rising : IsStrictlyIncreasing (map (λ (e : Entry). e.at) four_point)
four-rising zero l = lit< tt
four-rising (suc k) l = absurd (omega arith)

four-listed : IsListing 4 four_point
four-listed = record {
  rising = four-rising;
  columns = All-cons (λ (e : Entry). e.at < 4) (record { at = 1; value = 1 }) (record { at = 3; value = 1 } ∷ []) (lit< tt) (All-cons (λ (e : Entry). e.at < 4) (record { at = 3; value = 1 }) [] (lit< tt) (All-nil (λ (e : Entry). e.at < 4)));
  positive = All-cons (λ (e : Entry). 0 < e.value) (record { at = 1; value = 1 }) (record { at = 3; value = 1 } ∷ []) (lit< tt) (All-cons (λ (e : Entry). 0 < e.value) (record { at = 3; value = 1 }) [] (lit< tt) (All-nil (λ (e : Entry). 0 < e.value)));
  fitting = All-cons (λ (e : Entry). e.value < 2 ^ 63) (record { at = 1; value = 1 }) (record { at = 3; value = 1 } ∷ []) (lit< tt) (All-cons (λ (e : Entry). e.value < 2 ^ 63) (record { at = 3; value = 1 }) [] (lit< tt) (All-nil (λ (e : Entry). e.value < 2 ^ 63)));
}

four-basic : (j i : ℕ) → j < 4 → i < 2 → fourth_of_four.basis i ≡ suc (2 + j) → pos (numerator_at four_point j) ≡ fourth_of_four.at i 0
four-basic zero zero hj hi e = absurd (omega arith)
four-basic zero (suc zero) hj hi e = absurd (omega arith)
four-basic (suc zero) zero hj hi e = absurd (omega arith)
four-basic (suc zero) (suc zero) hj hi e = refl
four-basic (suc (suc zero)) zero hj hi e = absurd (omega arith)
four-basic (suc (suc zero)) (suc zero) hj hi e = absurd (omega arith)
four-basic (suc (suc (suc zero))) zero hj hi e = refl
four-basic (suc (suc (suc zero))) (suc zero) hj hi e = absurd (omega arith)
four-basic (suc (suc (suc (suc j)))) i hj hi e = absurd (omega arith)
four-basic zero (suc (suc i)) hj hi e = absurd (omega arith)
four-basic (suc zero) (suc (suc i)) hj hi e = absurd (omega arith)
four-basic (suc (suc zero)) (suc (suc i)) hj hi e = absurd (omega arith)
four-basic (suc (suc (suc zero))) (suc (suc i)) hj hi e = absurd (omega arith)

four-others : (j : ℕ) → j < 4 → ((i : ℕ) → i < 2 → fourth_of_four.basis i ≢ suc (2 + j)) → 0 ≢ suc (2 + j) → numerator_at four_point j ≡ 0
four-others zero hj none ne = refl
four-others (suc zero) hj none ne = absurd (none 1 (lit< tt) refl)
four-others (suc (suc zero)) hj none ne = refl
four-others (suc (suc (suc zero))) hj none ne = absurd (none 0 (lit< tt) refl)
four-others (suc (suc (suc (suc j)))) hj none ne = absurd (omega arith)

four-shown : IsPointAt four_columns fourth_of_four (numerator_at four_point)
four-shown = record { basic = four-basic; entering = λ j hj e. absurd (omega arith); others = four-others }

-- the run ends with columns 2 and 4 at 1, and the prices (1, 2)
pub four_columns-ends : EndsOptimal four_columns (record { den = 1; y = four_point; x = 1 ∷ 2 ∷ [] })
four_columns-ends = record {
  steps = 3;
  last = fourth_of_four;
  reached = pivots (pivots (pivots (begins four-first) four-within_first four-enters_first four-leaves_first four-pivot_first) four-within_second four-enters_second four-leaves_second four-pivot_second) four-within_third four-enters_third four-leaves_third four-pivot_third;
  within = four-within_fourth;
  optimal = not_negative_before (fourth_of_four.at 2) 6 refl;
  den = refl;
  y_listed = four-listed;
  y_at = four-shown;
  x_length = refl;
  x_at = below_two (λ s. pos (slice_index (1 ∷ 2 ∷ []) s) ≡ fourth_of_four.at 2 (suc s)) refl refl;
}
