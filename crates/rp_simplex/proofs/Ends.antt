-- The run ends: a number that falls with each pivot (`distance`), as long as the tableaus are within the width W.
-- Fractions that differ and have denominators up to W are at least 1/W^2 apart, so the whole parts of W^2 (N/D + W)
-- (`height`) keep their order strictly (`height_less`, `height_same`), and they are at most 2 W^3. The objective row,
-- which rises with each pivot (`PivotSound.objective_rises`), is read by these whole parts as one number
-- (`number`) in the base 2 W^3 + 1, which rises with it (`number-less`) and is bounded (`number-below`).
use Rattle.std.proofs.Common.{◌≡◌, ℕ, zero, suc, ◌+◌, ◌-◌, ◌*◌, ◌/◌, ◌^◌, ◌<◌, ◌≤◌, ℤ, pos, negsuc, ◌+ℤ◌, ◌*ℤ◌, ◌<ℤ◌, ◌≤ℤ◌, inl, inr, refl, sym, ◌∙◌, ap, subst, arith, pow-suc}
use Rattle.std.proofs.Math.Nat.{pow-zero}
use Rattle.std.specs.Int.RustNames.{unsigned_abs}
use Rattle.std.proofs.lemmas.Int.{ints}
use Rattle.std.proofs.lemmas.Bool.{cases_eq, cases_lt}
use Rattle.std.proofs.lemmas.Nat.{le-div, div_below, mul-le}
use Rattle.std.proofs.Math.Nat.{mul-le-mul_left, mul-le-mul_right, mul-lt-mul_of_pos_right, div-mul-le_self}
use borrow.Author.Differences.{up}
use Rattle.rp_simplex.specs.ExactTableau.{ExactTableau}
use Rattle.rp_simplex.specs.Lexicographic.{IsLexLess}
use Rattle.rp_simplex.specs.Width.{IsWithinWidth}
use Rattle.rp_simplex.proofs.Ring.{at, ◌⊕◌, ◌⊗◌, ring}

-- ---- numbers in a base
number : ℕ → (ℕ → ℕ) → ℕ → ℕ
number base h zero = 0
number base h (suc n) = number base h n * base + h n

number-same : (base : ℕ) (h g : ℕ → ℕ) (n : ℕ) → ((k : ℕ) → k < n → h k ≡ g k) → number base h n ≡ number base g n
unfolding number
number-same base h g zero e = refl
number-same base h g (suc n) e =
    let before : number base h n ≡ number base g n = number-same base h g n (λ k l. e k (omega arith)) in
    let here : h n ≡ g n = e n (omega arith) in
    ap (λ x. x * base + h n) before ∙ ap (λ x. number base g n * base + x) here

number-less : (base : ℕ) (h g : ℕ → ℕ) (n i : ℕ) → i < n → ((k : ℕ) → k < i → h k ≡ g k) → h i < g i → ((k : ℕ) → k < n → h k < base) → number base h n < number base g n
unfolding number
number-less base h g zero i l same less below = absurd (omega arith)
number-less base h g (suc n) i l same less below = elim (cases_eq i n) [
  | inl e ↦
      let before : number base h n ≡ number base g n = number-same base h g n (λ k m. same k (omega arith)) in
      let here : h n < g n = subst (λ k. h k < g k) e less in
      let scaled : number base h n * base ≡ number base g n * base = ap (λ x. x * base) before in
      omega arith
  | inr ne ↦
      let before : number base h n < number base g n = number-less base h g n i (omega arith) same less (λ k m. below k (omega arith)) in
      let scaled : (number base h n + 1) * base ≤ number base g n * base = mul-le-mul_right base (let s : number base h n + 1 ≤ number base g n = omega arith in s) in
      let last : h n < base = below n (omega arith) in
      omega arith
]

number-below : (base : ℕ) (h : ℕ → ℕ) (n : ℕ) → ((k : ℕ) → k < n → h k < base) → number base h n < base ^ n
unfolding number
number-below base h zero below = rw pow-zero (omega arith)
number-below base h (suc n) below =
    let before : number base h n < base ^ n = number-below base h n (λ k m. below k (omega arith)) in
    let scaled : (number base h n + 1) * base ≤ base ^ n * base = mul-le-mul_right base (let s : number base h n + 1 ≤ base ^ n = omega arith in s) in
    let last : h n < base = below n (omega arith) in
    rw pow-suc (omega arith)

-- ---- whole parts
part_at_most : (w m n d e : ℕ) → 0 < d → 0 < e → m * e ≤ n * d → w * m / d ≤ w * n / e
part_at_most w m n d e hd he least =
    let q : ℕ = w * m / d in
    let below : q * d ≤ w * m = div-mul-le_self (w * m) d in
    let scaled : q * d * e ≤ w * m * e = mul-le-mul_right e below in
    let moved : w * (m * e) ≤ w * (n * d) = mul-le-mul_left w least in
    elim (cases_lt (w * n) (q * e)) [
      | inl over ↦ let far : w * n * d < q * e * d = mul-lt-mul_of_pos_right over hd in absurd (omega arith)
      | inr under ↦ le-div q (w * n) e he under
    ]

part_same : (w m n d e : ℕ) → 0 < d → 0 < e → m * e ≡ n * d → w * m / d ≡ w * n / e
part_same w m n d e hd he same =
    let one_way : w * m / d ≤ w * n / e = part_at_most w m n d e hd he (omega arith) in
    let other_way : w * n / e ≤ w * m / d = part_at_most w n m e d he hd (omega arith) in
    omega arith

part_less : (w m n d e : ℕ) → 0 < d → 0 < e → d * e ≤ w → m * e < n * d → w * m / d < w * n / e
part_less w m n d e hd he room less =
    let q : ℕ = w * m / d in
    let below : q * d ≤ w * m = div-mul-le_self (w * m) d in
    let scaled : q * d * e ≤ w * m * e = mul-le-mul_right e below in
    let moved : w * (m * e + 1) ≤ w * (n * d) = mul-le-mul_left w (let l : m * e + 1 ≤ n * d = omega arith in l) in
    elim (cases_lt (w * n) ((q + 1) * e)) [
      | inl over ↦ let far : w * n * d < (q + 1) * e * d = mul-lt-mul_of_pos_right over hd in absurd (omega arith)
      | inr under ↦ let up_to : q + 1 ≤ w * n / e = le-div (q + 1) (w * n) e he under in omega arith
    ]

-- n + w d, which is at least 0
shifted : ℕ → ℤ → ℕ → ℕ
shifted w n d = up (n +ℤ pos (w * d))

as_nat : (z : ℤ) → pos 0 ≤ℤ z → pos (up z) ≡ z
as_nat (pos n) h = refl
as_nat (negsuc n) h = absurd (omega (arith, ints))

shifted_is : (w : ℕ) (n : ℤ) (d : ℕ) → unsigned_abs n < w → 0 < d → pos (shifted w n d) ≡ n +ℤ pos (w * d)
unfolding shifted
shifted_is w n d fits hd =
    let room : w * 1 ≤ w * d = mul-le-mul_left w hd in
    as_nat (n +ℤ pos (w * d)) (omega (arith, ints))

-- the whole part of w^2 (n/d + w)
height : ℕ → ℤ → ℕ → ℕ
height w n d = w * w * shifted w n d / d

crossed : (w : ℕ) (a b : ℤ) (m n d e : ℕ) → pos m ≡ a +ℤ pos (w * d) → pos n ≡ b +ℤ pos (w * e)
    → (pos (m * e) ≡ (a *ℤ pos e) +ℤ pos (w * (d * e))) × (pos (n * d) ≡ (b *ℤ pos d) +ℤ pos (w * (d * e)))
crossed w a b m n d e h k = (
  ap (λ z. z *ℤ pos e) h ∙ ring ((at a ⊕ (at (pos w) ⊗ at (pos d))) ⊗ at (pos e)) ((at a ⊗ at (pos e)) ⊕ (at (pos w) ⊗ (at (pos d) ⊗ at (pos e)))) (omega arith),
  ap (λ z. z *ℤ pos d) k ∙ ring ((at b ⊕ (at (pos w) ⊗ at (pos e))) ⊗ at (pos d)) ((at b ⊗ at (pos d)) ⊕ (at (pos w) ⊗ (at (pos d) ⊗ at (pos e)))) (omega arith),
)

height_same : (w : ℕ) (a b : ℤ) (d e : ℕ) → unsigned_abs a < w → unsigned_abs b < w → 0 < d → 0 < e → a *ℤ pos e ≡ b *ℤ pos d → height w a d ≡ height w b e
unfolding height
height_same w a b d e ha hb hd he same =
    let parts = crossed w a b (shifted w a d) (shifted w b e) d e (shifted_is w a d ha hd) (shifted_is w b e hb he) in
    let equal : pos (shifted w a d * e) ≡ pos (shifted w b e * d) = parts.0 ∙ ap (λ z. z +ℤ pos (w * (d * e))) same ∙ sym parts.1 in
    part_same (w * w) (shifted w a d) (shifted w b e) d e hd he (ap up equal)

same_shift : (x y m n : ℤ) (s : ℕ) → m ≡ x +ℤ pos s → n ≡ y +ℤ pos s → x <ℤ y → m <ℤ n
same_shift x y m n s h k l = omega (arith, ints)

pos_less : (m n : ℕ) → pos m <ℤ pos n → m < n
pos_less m n h = omega (arith, ints)

height_less : (w : ℕ) (a b : ℤ) (d e : ℕ) → unsigned_abs a < w → unsigned_abs b < w → 0 < d → 0 < e → d < w → e < w → (a *ℤ pos e) <ℤ (b *ℤ pos d) → height w a d < height w b e
unfolding height
height_less w a b d e ha hb hd he hdw hew less =
    let parts = crossed w a b (shifted w a d) (shifted w b e) d e (shifted_is w a d ha hd) (shifted_is w b e hb he) in
    let greater : pos (shifted w a d * e) <ℤ pos (shifted w b e * d) = same_shift (a *ℤ pos e) (b *ℤ pos d) (pos (shifted w a d * e)) (pos (shifted w b e * d)) (w * (d * e)) parts.0 parts.1 less in
    part_less (w * w) (shifted w a d) (shifted w b e) d e hd he (mul-le d e w w (omega arith) (omega arith)) (pos_less (shifted w a d * e) (shifted w b e * d) greater)

base_of : ℕ → ℕ
base_of w = 2 * w * w * w + 1

height_below : (w : ℕ) (a : ℤ) (d : ℕ) → unsigned_abs a < w → 0 < d → height w a d < base_of w
unfolding height base_of
height_below w a d ha hd =
    let is : pos (shifted w a d) ≡ a +ℤ pos (w * d) = shifted_is w a d ha hd in
    let room : w * 1 ≤ w * d = mul-le-mul_left w hd in
    let small : shifted w a d ≤ 2 * (w * d) = omega (arith, ints) in
    let scaled : w * w * shifted w a d ≤ w * w * (2 * (w * d)) = mul-le-mul_left (w * w) small in
    div_below (w * w * shifted w a d) d (2 * w * w * w + 1) hd (omega arith)

-- ---- the number that falls
falls : (w rows width : ℕ) (t u : ExactTableau) → t.den < w → u.den < w → ((j : ℕ) → j < width → unsigned_abs (t.at rows j) < w) → ((j : ℕ) → j < width → unsigned_abs (u.at rows j) < w)
    → 0 < t.den → 0 < u.den → IsLexLess width (λ j. t.at rows j *ℤ pos u.den) (λ j. u.at rows j *ℤ pos t.den)
    → base_of w ^ width - number (base_of w) (λ j. height w (u.at rows j) u.den) width < base_of w ^ width - number (base_of w) (λ j. height w (t.at rows j) t.den) width
falls w rows width t u htw huw ft fu ht hu rises =
    let old : ℕ → ℕ = λ j. height w (t.at rows j) t.den in
    let new : ℕ → ℕ = λ j. height w (u.at rows j) u.den in
    let more : number (base_of w) old width < number (base_of w) new width
    = number-less (base_of w) old new width rises.place rises.in_range
    (λ k l. height_same w (t.at rows k) (u.at rows k) t.den u.den (ft k (omega (arith, rises.in_range))) (fu k (omega (arith, rises.in_range))) ht hu (rises.same_before k l))
    (height_less w (t.at rows rises.place) (u.at rows rises.place) t.den u.den (ft rises.place rises.in_range) (fu rises.place rises.in_range) ht hu htw huw rises.less)
    (λ k l. height_below w (t.at rows k) t.den (ft k l) ht) in
    let bound : number (base_of w) new width < base_of w ^ width = number-below (base_of w) new width (λ k l. height_below w (u.at rows k) u.den (fu k l) hu) in
    omega arith

-- the objective row of a tableau, read as one number
objective_number : ℕ → ℕ → ExactTableau → ℕ
objective_number rows width t = number (base_of (2 ^ 63)) (λ j. height (2 ^ 63) (t.at rows j) t.den) width

-- how far the objective row is from the bound
pub distance : ℕ → ℕ → ExactTableau → ℕ
distance rows width t = base_of (2 ^ 63) ^ width - objective_number rows width t

pub distance_falls : (rows width : ℕ) (t u : ExactTableau) → IsWithinWidth rows width t → IsWithinWidth rows width u → 0 < t.den → 0 < u.den
    → IsLexLess width (λ j. t.at rows j *ℤ pos u.den) (λ j. u.at rows j *ℤ pos t.den) → distance rows width u < distance rows width t
unfolding distance objective_number
distance_falls rows width t u tw uw ht hu rises = falls (2 ^ 63) rows width t u tw.den_fits uw.den_fits (λ j l. tw.entries_fit rows j (omega arith) l) (λ j l. uw.entries_fit rows j (omega arith) l) ht hu rises
