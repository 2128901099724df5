-- The sums of Afriat's inequalities, with natural numbers alone: an integer z is read as `up z - down z`.
use borrow.Author.Differences.{up, down}
use Rattle.std.proofs.Common.{◌≡◌, ℕ, ◌+◌, ◌*◌, ◌<◌, ◌≤◌, ap, arith}
use Rattle.std.proofs.lemmas.Int.{ints}
use Rattle.std.proofs.Math.Nat.{mul-le-mul_left, mul-lt-mul_of_pos_left}
use Rattle.std.specs.Prelude.{ℤ, pos, ◌+ℤ◌, ◌-ℤ◌, ◌*ℤ◌, ◌<ℤ◌, ◌≤ℤ◌}

product_parts : (k : ℕ) (z : ℤ) → up (pos k *ℤ z) + k * down z ≡ down (pos k *ℤ z) + k * up z
product_parts k z = omega (arith, ints)

difference_parts : (a b : ℕ) → up (pos a -ℤ pos b) + b ≡ down (pos a -ℤ pos b) + a
difference_parts a b = omega (arith, ints)

-- x + k (a - b)
pub allowed_parts : (x : ℤ) (k a b : ℕ) → up (x +ℤ (pos k *ℤ (pos a -ℤ pos b))) + (down x + k * b) ≡ down (x +ℤ (pos k *ℤ (pos a -ℤ pos b))) + (up x + k * a)
allowed_parts x k a b =
    let p = product_parts k (pos a -ℤ pos b) in
    let d = ap (λ z. k * z) (difference_parts a b) in
    sum_parts x (pos k *ℤ (pos a -ℤ pos b)) (k * a) (k * b) (omega arith)
  where
    sum_parts : (x y : ℤ) (p q : ℕ) → up y + q ≡ down y + p → up (x +ℤ y) + (down x + q) ≡ down (x +ℤ y) + (up x + p)
    sum_parts x y p q h = omega (arith, ints)

-- what is allowed at the own bundle is the own utility
pub allowed_at_itself : (x : ℤ) (k a : ℕ) → x +ℤ (pos k *ℤ (pos a -ℤ pos a)) ≡ x
allowed_at_itself x k a = let p = allowed_parts x k a a in omega (arith, ints)

-- once a bundle is itself
pub once : (x : ℤ) (k a b : ℕ) → (pos 1 *ℤ x) +ℤ (pos k *ℤ (pos a -ℤ pos (1 * b))) ≡ x +ℤ (pos k *ℤ (pos a -ℤ pos b))
once x k a b = λ i. (one_times x i) +ℤ (pos k *ℤ (pos a -ℤ pos (nat_one b i)))
  where
    one_times : (x : ℤ) → pos 1 *ℤ x ≡ x
    one_times x = omega (arith, ints)

    nat_one : (b : ℕ) → 1 * b ≡ b
    nat_one b = omega arith

-- no more than x is allowed where a is at most b, less where it is less; and no less where it is at least b
pub not_above : (x y : ℤ) (k a b : ℕ) → a ≤ b → y ≤ℤ (x +ℤ (pos k *ℤ (pos a -ℤ pos b))) → y ≤ℤ x
not_above x y k a b l h =
    let p = allowed_parts x k a b in
    let q : k * a ≤ k * b = mul-le-mul_left k l in
    omega (arith, ints)

pub below : (x y : ℤ) (k a b : ℕ) → 1 ≤ k → a < b → y ≤ℤ (x +ℤ (pos k *ℤ (pos a -ℤ pos b))) → y <ℤ x
below x y k a b o l h =
    let p = allowed_parts x k a b in
    let q : k * a < k * b = mul-lt-mul_of_pos_left l o in
    omega (arith, ints)

pub allows_itself : (x : ℤ) (k a b : ℕ) → b ≤ a → x ≤ℤ (x +ℤ (pos k *ℤ (pos a -ℤ pos b)))
allows_itself x k a b l =
    let p = allowed_parts x k a b in
    let q : k * b ≤ k * a = mul-le-mul_left k l in
    omega (arith, ints)
