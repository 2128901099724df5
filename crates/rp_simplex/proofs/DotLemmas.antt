-- Running sums of products of multipliers and entries, in 128 bits.
use Rattle.std.proofs.Common.{◌≡◌, ℕ, zero, suc, ◌+◌, ◌*◌, ◌^◌, ◌<◌, ◌≤◌, ℤ, pos, ◌+ℤ◌, ◌*ℤ◌, List, length, get_or, refl, sym, ◌∙◌, ap, subst, arith, add-one, Bool, true, false, MatchBool, inl, inr, rules}
use Rattle.std.specs.Int.{w64, w128}
use Rattle.std.specs.Int.RustNames.{unsigned_abs}
use mir.Val.{to_z, of_z}
use Rattle.std.proofs.lemmas.Int.{to_z-of_z, fits_signed_from_abs, unsigned_abs-mul}
use Rattle.std.proofs.lemmas.Nat.{mul-le}
use Rattle.std.proofs.lemmas.Bool.{cases_lt}
use Rattle.std.proofs.lemmas.List.{get_or_past}
use Rattle.rp_farkas.specs.Limits.{largest_entry, most_rows}
use Rattle.rp_farkas.specs.Total.{total}
use Rattle.rp_farkas.proofs.Totals.{total-suc}
use Rattle.rp_farkas.proofs.SumSteps.{abs_sum}
use Rattle.rp_simplex.specs.InnerCombined.{AreSmall, ElementsFit, dot}

-- the greatest absolute value of one product
abbrev pub product_bound : ℕ
product_bound = 2 ^ 63 * largest_entry

pub product_size : (a b : ℤ) → unsigned_abs a < 2 ^ 63 → unsigned_abs b ≤ largest_entry → unsigned_abs (a *ℤ b) ≤ product_bound
product_size a b ha hb = omega (arith, unsigned_abs-mul a b, mul-le (unsigned_abs a) (unsigned_abs b) (2 ^ 63) (largest_entry) (omega arith) hb)

back64 : (z : ℤ) → unsigned_abs z < 2 ^ 63 → to_z w64 (of_z w64 z) ≡ z
back64 z fits = to_z-of_z w64 z (fits_signed_from_abs w64 z fits)

back128 : (z : ℤ) → unsigned_abs z < 2 ^ 127 → to_z w128 (of_z w128 z) ≡ z
back128 z fits = to_z-of_z w128 z (fits_signed_from_abs w128 z fits)

pub plus_read : (sum m e x y : ℤ) → unsigned_abs sum ≤ most_rows * product_bound → unsigned_abs m < 2 ^ 63 → unsigned_abs e ≤ largest_entry → x ≡ to_z w64 (of_z w64 m) → y ≡ to_z w64 (of_z w64 e)
    → to_z w128 (of_z w128 (to_z w128 (of_z w128 sum) +ℤ to_z w128 (of_z w128 (to_z w128 (of_z w128 x) *ℤ to_z w128 (of_z w128 y))))) ≡ sum +ℤ m *ℤ e
plus_read sum m e x y room fits small is_x is_y =
    let x_is : x ≡ m = is_x ∙ back64 m fits in
    let y_is : y ≡ e = is_y ∙ back64 e (omega arith) in
    let size : unsigned_abs (m *ℤ e) ≤ product_bound = product_size m e fits small in
    let sum_read : to_z w128 (of_z w128 sum) ≡ sum = back128 sum (omega arith) in
    let product_read : to_z w128 (of_z w128 (to_z w128 (of_z w128 x) *ℤ to_z w128 (of_z w128 y))) ≡ m *ℤ e
    = (λ k. to_z w128 (of_z w128 (to_z w128 (of_z w128 (x_is k)) *ℤ to_z w128 (of_z w128 (y_is k)))))
    ∙ (λ k. to_z w128 (of_z w128 (back128 m (omega arith) k *ℤ back128 e (omega arith) k)))
    ∙ back128 (m *ℤ e) (omega arith) in
    (λ k. to_z w128 (of_z w128 (sum_read k +ℤ product_read k))) ∙ back128 (sum +ℤ m *ℤ e) (omega (arith, abs_sum sum (m *ℤ e)))

-- the running sum after one more product
pub product_more : (k : ℕ) (f : ℕ → ℤ) (x y sum r : ℤ) → unsigned_abs x < 2 ^ 63 → unsigned_abs y ≤ largest_entry → f k ≡ x *ℤ y
    → sum ≡ total k f → unsigned_abs sum ≤ k * product_bound → r ≡ sum +ℤ to_z w64 (of_z w64 x) *ℤ to_z w64 (of_z w64 y)
    → (r ≡ total (k + 1) f) × (unsigned_abs r ≤ (k + 1) * product_bound)
product_more k f x y sum r fit small here is bounded e =
    let r_is : r ≡ sum +ℤ x *ℤ y = e ∙ (λ q. sum +ℤ back64 x fit q *ℤ back64 y (omega arith) q) in
    let size : unsigned_abs (x *ℤ y) ≤ product_bound = product_size x y fit small in (
      r_is ∙ (λ q. is q +ℤ sym here q) ∙ sym (total-suc k f),
      subst (λ z. unsigned_abs z ≤ (k + 1) * product_bound) (sym r_is) (omega (arith, abs_sum sum (x *ℤ y))),
    )

pub total_start : (f : ℕ → ℤ) → pos 0 ≡ total 0 f
unfolding total
total_start f = refl

-- the sum of the first n absolute values
unfoldable pub magnitude : ℕ → List ℤ → ℕ
magnitude zero xs = 0
magnitude (suc n) xs = magnitude n xs + unsigned_abs (get_or xs n (pos 0))

pub magnitude_start : (xs : List ℤ) → 0 ≡ magnitude 0 xs
unfolding magnitude
magnitude_start xs = refl

pub magnitude_more : (n : ℕ) (xs : List ℤ) → magnitude (n + 1) xs ≡ magnitude n xs + unsigned_abs (get_or xs n (pos 0))
unfolding magnitude
magnitude_more n xs = rw add-one refl

-- no row is larger than its multipliers' sum by the largest entry
pub bounded_dot : (n l : ℕ) (xs ys : List ℤ) → ((s : ℕ) → s < n → unsigned_abs (get_or ys s (pos 0)) ≤ l) → unsigned_abs (dot n xs ys) ≤ magnitude n xs * l
unfolding magnitude total
bounded_dot zero l xs ys small = omega arith
bounded_dot (suc n) l xs ys small =
    let x : ℤ = get_or xs n (pos 0) in let y : ℤ = get_or ys n (pos 0) in
    let before : unsigned_abs (dot n xs ys) ≤ magnitude n xs * l = bounded_dot n l xs ys (λ s h. small s (omega arith)) in
    let here : unsigned_abs x * unsigned_abs y ≤ unsigned_abs x * l = mul-le (unsigned_abs x) (unsigned_abs y) (unsigned_abs x) l (omega arith) (small n (omega arith)) in
    let apart : (magnitude n xs + unsigned_abs x) * l ≡ magnitude n xs * l + unsigned_abs x * l = omega arith in
    omega (arith, abs_sum (dot n xs ys) (x *ℤ y), unsigned_abs-mul x y)

-- elements past the end are 0
pub small_anywhere : (l : ℕ) (ys : List ℤ) → AreSmall l ys → (s : ℕ) → unsigned_abs (get_or ys s (pos 0)) ≤ l
small_anywhere l ys small s = elim (cases_lt s (length ys)) [
  | inl inside ↦ small s inside
  | inr past ↦ subst (λ z. unsigned_abs z ≤ l) (sym (get_or_past ys s (pos 0) past)) (omega arith)
]

pub surely : (b : Bool) (P : Type 0) → (b ≡ true → P) → MatchBool b P (Unit {0})
surely true P f = f refl
surely false P f = search rules

-- the absolute value of an element that is read
pub read_size : (xs : List ℤ) (s n : ℕ) → ElementsFit xs → s < length xs → n ≡ unsigned_abs (to_z w64 (of_z w64 (get_or xs s (pos 0)))) → (n ≡ unsigned_abs (get_or xs s (pos 0))) × (n < 2 ^ 63)
read_size xs s n fit inside e =
    let whole : n ≡ unsigned_abs (get_or xs s (pos 0)) = e ∙ ap unsigned_abs (back64 (get_or xs s (pos 0)) (fit s inside)) in
    (whole, subst (λ k. k < 2 ^ 63) (sym whole) (fit s inside))
