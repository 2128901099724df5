-- The ring laws of the whole numbers, and products under an order.
use Rattle.std.proofs.Common.{◌≡◌, ℕ, ◌*◌, ◌<◌, ℤ, pos, negsuc, ◌+ℤ◌, ◌*ℤ◌, ◌≤ℤ◌, ◌<ℤ◌, sym, ◌∙◌, ap, arith}
use Rattle.std.proofs.lemmas.Int.{ints}
use Rattle.std.specs.Int.RustNames.{unsigned_abs}
use Rattle.std.proofs.Math.Nat.{mul-le-mul_right, mul-lt-mul_of_pos_right}
use borrow.Author.Differences.{up, down, le_out, lt_out, product_is, sum_is_lem}

pub times_comm : (a b : ℤ) → a *ℤ b ≡ b *ℤ a
times_comm a b = omega (arith, ints)

pub plus_times : (a b c : ℤ) → (a +ℤ b) *ℤ c ≡ (a *ℤ c) +ℤ (b *ℤ c)
plus_times a b c =
    let by_up = ap (λ (n : ℕ). n * up c) (sum_is_lem a b) in
    let by_down = ap (λ (n : ℕ). n * down c) (sum_is_lem a b) in
    omega (arith, ints, by_up, by_down)

pub times_plus : (a b c : ℤ) → a *ℤ (b +ℤ c) ≡ (a *ℤ b) +ℤ (a *ℤ c)
times_plus a b c =
    let by_up = ap (λ (n : ℕ). n * up a) (sum_is_lem b c) in
    let by_down = ap (λ (n : ℕ). n * down a) (sum_is_lem b c) in
    omega (arith, ints, by_up, by_down)

pub times_assoc : (a b c : ℤ) → (a *ℤ b) *ℤ c ≡ a *ℤ (b *ℤ c)
times_assoc a b c =
    let u1 = ap (λ (n : ℕ). n * up c) (product_is a b).0 in
    let u2 = ap (λ (n : ℕ). n * down c) (product_is a b).0 in
    let u3 = ap (λ (n : ℕ). n * up c) (product_is a b).1 in
    let u4 = ap (λ (n : ℕ). n * down c) (product_is a b).1 in
    let v1 = ap (λ (n : ℕ). n * up a) (product_is b c).0 in
    let v2 = ap (λ (n : ℕ). n * down a) (product_is b c).0 in
    let v3 = ap (λ (n : ℕ). n * up a) (product_is b c).1 in
    let v4 = ap (λ (n : ℕ). n * down a) (product_is b c).1 in
    omega (arith, ints, u1, u2, u3, u4, v1, v2, v3, v4)

-- (a b) c is (a c) b
pub turn : (a b c : ℤ) → (a *ℤ b) *ℤ c ≡ (a *ℤ c) *ℤ b
turn a b c = times_assoc a b c ∙ ap (λ z. a *ℤ z) (times_comm b c) ∙ sym (times_assoc a c b)

-- a lesser and a greater number, times the same natural
pub times_mono : (x y : ℤ) (k : ℕ) → x ≤ℤ y → (x *ℤ pos k) ≤ℤ (y *ℤ pos k)
times_mono x y k h =
    let by_k = mul-le-mul_right k (le_out x y h) in
    omega (arith, ints, by_k)

pub times_strict : (x y : ℤ) (k : ℕ) → 0 < k → x <ℤ y → (x *ℤ pos k) <ℤ (y *ℤ pos k)
times_strict x y k positive h =
    let by_k = mul-lt-mul_of_pos_right (lt_out x y h) positive in
    omega (arith, ints, by_k)

-- z is between -|z| and |z|
pub below_abs : (z : ℤ) → z ≤ℤ pos (unsigned_abs z)
below_abs (pos n) = omega (arith, ints)
below_abs (negsuc n) = omega (arith, ints)

pub above_abs : (z : ℤ) → pos 0 ≤ℤ (z +ℤ pos (unsigned_abs z))
above_abs (pos n) = omega (arith, ints)
above_abs (negsuc n) = omega (arith, ints)

-- a number above 0, times a natural, is at least that natural
pub times_at_least : (g : ℤ) (k : ℕ) → pos 0 <ℤ g → pos k ≤ℤ (g *ℤ pos k)
times_at_least g k h =
    let one_at_most : pos 1 ≤ℤ g = omega (arith, ints) in
    let scaled : (pos 1 *ℤ pos k) ≤ℤ (g *ℤ pos k) = times_mono (pos 1) g k one_at_most in
    omega (arith, ints)
