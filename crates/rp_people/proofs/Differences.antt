-- Whole numbers as differences of natural numbers: their order, sums and products, by natural numbers alone.
use borrow.Author.Differences.{up, down}
use Rattle.std.proofs.Common.{◌≡◌, ℕ, ◌+◌, ◌*◌, ◌<◌, ◌≤◌, ap, arith}
use Rattle.std.proofs.lemmas.Int.{ints}
use Rattle.std.proofs.Math.Nat.{mul-le-mul_left}
use Rattle.std.specs.Prelude.{ℤ, pos, ◌+ℤ◌, ◌-ℤ◌, ◌*ℤ◌, ◌<ℤ◌, ◌≤ℤ◌, IsTrue, int_le}

-- z is p - q
abbrev pub IsDifference : ℤ → ℕ → ℕ → Type 0
IsDifference z p q = up z + q ≡ down z + p

pub by_itself : (z : ℤ) → IsDifference z (up z) (down z)
by_itself z = omega arith

pub of_whole : (p : ℕ) → IsDifference (pos p) p 0
of_whole p = omega (arith, ints)

pub sum_is : (z w : ℤ) (p q r s : ℕ) → IsDifference z p q → IsDifference w r s → IsDifference (z +ℤ w) (p + r) (q + s)
sum_is z w p q r s a b = omega (arith, ints)

pub less_is : (z w : ℤ) (p q r s : ℕ) → IsDifference z p q → IsDifference w r s → IsDifference (z -ℤ w) (p + s) (q + r)
less_is z w p q r s a b = omega (arith, ints)

times_parts : (k : ℕ) (z : ℤ) → up (pos k *ℤ z) + k * down z ≡ down (pos k *ℤ z) + k * up z
times_parts k z = omega (arith, ints)

parts_times : (z : ℤ) (k : ℕ) → up (z *ℤ pos k) + down z * k ≡ down (z *ℤ pos k) + up z * k
parts_times z k = omega (arith, ints)

pub times_is : (k : ℕ) (z : ℤ) (p q : ℕ) → IsDifference z p q → IsDifference (pos k *ℤ z) (k * p) (k * q)
times_is k z p q a =
    let e = times_parts k z in
    let d = ap (λ m. k * m) a in
    omega arith

pub is_times : (z : ℤ) (k p q : ℕ) → IsDifference z p q → IsDifference (z *ℤ pos k) (p * k) (q * k)
is_times z k p q a =
    let e = parts_times z k in
    let d = ap (λ m. m * k) a in
    omega arith

module _ (z w : ℤ) (p q r s : ℕ) (a : IsDifference z p q) (b : IsDifference w r s) where
  pub at_most_by : p + s ≤ r + q → z ≤ℤ w
  at_most_by l = omega (arith, ints)

  pub at_most_parts : z ≤ℤ w → p + s ≤ r + q
  at_most_parts l = omega (arith, ints)

  pub below_by : p + s < r + q → z <ℤ w
  below_by l = omega (arith, ints)

  pub equal_by : p + s ≡ r + q → z ≡ w
  equal_by e = omega (arith, ints)

pub at_most_itself : (x : ℤ) → x ≤ℤ x
at_most_itself x = omega (arith, ints)

pub at_most_on : (x y z : ℤ) → x ≤ℤ y → y ≤ℤ z → x ≤ℤ z
at_most_on x y z a b = omega (arith, ints)

pub at_most_below : (x y z : ℤ) → x ≤ℤ y → y <ℤ z → x <ℤ z
at_most_below x y z a b = omega (arith, ints)

pub both_at_most : (x y : ℤ) → x ≤ℤ y → y ≤ℤ x → x ≡ y
both_at_most x y a b = omega (arith, ints)

pub below_not_at_most : (x y : ℤ) → x <ℤ y → ¬ (y ≤ℤ x)
below_not_at_most x y a b = omega (arith, ints)

pub at_most_times : (x y : ℤ) (k : ℕ) → x ≤ℤ y → (x *ℤ pos k) ≤ℤ (y *ℤ pos k)
at_most_times x y k l =
    let n = at_most_parts x y (up x) (down x) (up y) (down y) (by_itself x) (by_itself y) l in
    let m : k * (up x + down y) ≤ k * (up y + down x) = mul-le-mul_left k n in
    at_most_by (x *ℤ pos k) (y *ℤ pos k) (up x * k) (down x * k) (up y * k) (down y * k)
    (is_times x k (up x) (down x) (by_itself x)) (is_times y k (up y) (down y) (by_itself y)) (omega arith)

pub times_at_most : (k : ℕ) (x y : ℤ) → x ≤ℤ y → (pos k *ℤ x) ≤ℤ (pos k *ℤ y)
times_at_most k x y l =
    let n = at_most_parts x y (up x) (down x) (up y) (down y) (by_itself x) (by_itself y) l in
    let m : k * (up x + down y) ≤ k * (up y + down x) = mul-le-mul_left k n in
    at_most_by (pos k *ℤ x) (pos k *ℤ y) (k * up x) (k * down x) (k * up y) (k * down y)
    (times_is k x (up x) (down x) (by_itself x)) (times_is k y (up y) (down y) (by_itself y)) (omega arith)

pub at_most_sum : (x y z w : ℤ) → x ≤ℤ y → z ≤ℤ w → (x +ℤ z) ≤ℤ (y +ℤ w)
at_most_sum x y z w a b = omega (arith, ints)

-- the test of the order
pub at_most_test : (x y : ℤ) → x ≤ℤ y → IsTrue (int_le x y)
at_most_test x y l = grind (arith, ints)

pub test_at_most : (x y : ℤ) → IsTrue (int_le x y) → x ≤ℤ y
test_at_most x y e = grind (arith, ints)
