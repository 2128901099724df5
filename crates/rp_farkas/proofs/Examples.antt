-- The definitions at worked programs.
use Rattle.std.proofs.Common.{◌≡◌, ℕ, zero, suc, ◌<◌, [], ◌∷◌, pos, negsuc, ◌*ℤ◌, ◌≤ℤ◌, ◌<ℤ◌, slice_index, refl, arith, lit<}
use lib.Signed.{le_z_yes, lt_z_yes, clash_ℤ}
use Rattle.rp_farkas.specs.Total.{total}
use Rattle.rp_farkas.specs.LinearProgram.{LinearProgram}
use Rattle.rp_farkas.specs.Listed.{listed_program}
use Rattle.rp_farkas.specs.Point.{IsFeasiblePoint, row_times, value_of}
use Rattle.rp_farkas.specs.Prices.{IsFeasiblePrices, column_times}
use Rattle.rp_farkas.specs.EqualPair.{IsEqualPair}
use Rattle.rp_farkas.specs.Ray.{IsRay}
use Rattle.rp_farkas.specs.Listing.{numerator_at}

below_one : (P : ℕ → Type 0) → P 0 → (i : ℕ) → i < 1 → P i
below_one P p zero h = p
below_one P p (suc i) h = absurd (omega arith)

below_two : (P : ℕ → Type 0) → P 0 → P 1 → (i : ℕ) → i < 2 → P i
below_two P p q zero h = p
below_two P p q (suc zero) h = q
below_two P p q (suc (suc i)) h = absurd (omega arith)

below_four : (P : ℕ → Type 0) → P 0 → P 1 → P 2 → P 3 → (i : ℕ) → i < 4 → P i
below_four P p q r s zero h = p
below_four P p q r s (suc zero) h = q
below_four P p q r s (suc (suc zero)) h = r
below_four P p q r s (suc (suc (suc zero))) h = s
below_four P p q r s (suc (suc (suc (suc i)))) h = absurd (omega arith)

-- greatest y1 + y2 with 4 y1 + y2 ≤ 1 and 3 y1 + 4 y2 ≤ 1: the point (3/13, 1/13) and the prices (1/13, 3/13) are
-- both worth 4/13
abbrev pub two_rows : LinearProgram
two_rows = listed_program 2 2 (pos 4 ∷ pos 1 ∷ pos 3 ∷ pos 4 ∷ []) (pos 1 ∷ pos 1 ∷ []) (pos 1 ∷ pos 1 ∷ [])

pub two_rows-pair : IsEqualPair two_rows 13 (slice_index (3 ∷ 1 ∷ [])) (slice_index (1 ∷ 3 ∷ []))
unfolding total
two_rows-pair = record {
  point = record { den_positive = lit< tt; rows_hold = below_two (λ i. row_times two_rows i (slice_index (3 ∷ 1 ∷ [])) ≤ℤ (two_rows.b i *ℤ pos 13)) (le_z_yes tt) (le_z_yes tt) };
  prices = record { den_positive = lit< tt; columns_hold = below_two (λ j. (two_rows.c j *ℤ pos 13) ≤ℤ column_times two_rows j (slice_index (1 ∷ 3 ∷ []))) (le_z_yes tt) (le_z_yes tt) };
  equal = refl;
}

pub two_rows-value : value_of two_rows (slice_index (3 ∷ 1 ∷ [])) ≡ pos 4
unfolding total
two_rows-value = refl

-- the point (1, 1) is not feasible, since 4 + 1 is above 1
pub two_rows-outside : IsFeasiblePoint two_rows 1 (slice_index (1 ∷ 1 ∷ [])) → ⊥
unfolding total
two_rows-outside h = let over : pos 1 <ℤ pos 5 = lt_z_yes tt in clash_ℤ over (h.rows_hold 0 (lit< tt))

-- the prices (0, 0) are not, since no price reaches the objective
pub two_rows-too_cheap : IsFeasiblePrices two_rows 1 (λ _. 0) → ⊥
unfolding total
two_rows-too_cheap h = let under : pos 0 <ℤ pos 1 = lt_z_yes tt in clash_ℤ under (h.columns_hold 0 (lit< tt))

-- greatest y with -y ≤ 1: the point 0 and the ray 1
abbrev pub one_row : LinearProgram
one_row = listed_program 1 1 (negsuc 0 ∷ []) (pos 1 ∷ []) (pos 1 ∷ [])

pub one_row-point : IsFeasiblePoint one_row 1 (numerator_at [])
unfolding total
one_row-point = record { den_positive = lit< tt; rows_hold = below_one (λ i. row_times one_row i (numerator_at []) ≤ℤ (one_row.b i *ℤ pos 1)) (le_z_yes tt) }

pub one_row-ray : IsRay one_row (numerator_at (record { at = 0; value = 1 } ∷ []))
unfolding total
one_row-ray = record { rows_hold = below_one (λ i. row_times one_row i (numerator_at (record { at = 0; value = 1 } ∷ [])) ≤ℤ pos 0) (le_z_yes tt); gains = lt_z_yes tt }

-- the direction 0 is no ray: it gains nothing
pub one_row-no_ray : IsRay one_row (numerator_at []) → ⊥
unfolding total
one_row-no_ray h = let same : pos 0 <ℤ pos 0 = h.gains in clash_ℤ same (le_z_yes tt)

-- the columns (1, 2), (2, 1), (1, 1) and (-1, -1) with the right sides (1, 0) and the objective (4, 4, 3, -3)
abbrev pub four_columns : LinearProgram
four_columns = listed_program 2 4 (pos 1 ∷ pos 2 ∷ pos 1 ∷ negsuc 0 ∷ pos 2 ∷ pos 1 ∷ pos 1 ∷ negsuc 0 ∷ []) (pos 1 ∷ pos 0 ∷ []) (pos 4 ∷ pos 4 ∷ pos 3 ∷ negsuc 2 ∷ [])

pub four_columns-pair : IsEqualPair four_columns 1 (numerator_at (record { at = 1; value = 1 } ∷ record { at = 3; value = 1 } ∷ [])) (slice_index (1 ∷ 2 ∷ []))
unfolding total
four_columns-pair = record {
  point = record { den_positive = lit< tt; rows_hold = below_two (λ i. row_times four_columns i (numerator_at (record { at = 1; value = 1 } ∷ record { at = 3; value = 1 } ∷ [])) ≤ℤ (four_columns.b i *ℤ pos 1)) (le_z_yes tt) (le_z_yes tt) };
  prices = record { den_positive = lit< tt; columns_hold = below_four (λ j. (four_columns.c j *ℤ pos 1) ≤ℤ column_times four_columns j (slice_index (1 ∷ 2 ∷ []))) (le_z_yes tt) (le_z_yes tt) (le_z_yes tt) (le_z_yes tt) };
  equal = refl;
}
