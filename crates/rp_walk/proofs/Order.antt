-- The order of totals, which are fractions: one, the other or neither is less. What is "not more" is said as "the other
-- is not less", so that chains of the two need no split into cases.
use Rattle.std.proofs.Common.{ℕ, ◌+◌, ◌*◌, ◌<◌, ◌≤◌, arith, ◌⊎◌, inl, inr}
use Rattle.std.proofs.lemmas.Int.{ints}
use Rattle.std.proofs.lemmas.Bool.{cases_lt}
use Rattle.std.proofs.Math.Nat.{mul-lt-mul_of_pos_right, mul-le-mul_right, lt_of_mul-lt-mul_right}
use Rattle.std.specs.Prelude.{ℤ, pos, ◌*ℤ◌, ◌<ℤ◌}
use borrow.Author.Differences.{up, down}
use Rattle.rp_walk.specs.ExactTotal.{ExactTotal, IsLess, SameTotal}
use Rattle.rp_walk.proofs.Numbers.{from_nat, same_from_nat, same_to_nat, to_nat}

not_to_nat : (a c : ℤ) (b d : ℕ) → ¬ ((a *ℤ pos d) <ℤ (c *ℤ pos b)) → up c * b + down a * d ≤ up a * d + down c * b
not_to_nat a c b d h =
    decided (cases_lt (up a * d + down c * b) (up c * b + down a * d))
  where
    decided : (up a * d + down c * b < up c * b + down a * d) ⊎ (up c * b + down a * d ≤ up a * d + down c * b) → up c * b + down a * d ≤ up a * d + down c * b
    decided (inl p) = absurd (h (from_nat a c b d p))
    decided (inr p) = p

not_from_nat : (a c : ℤ) (b d : ℕ) → up c * b + down a * d ≤ up a * d + down c * b → ¬ ((a *ℤ pos d) <ℤ (c *ℤ pos b))
not_from_nat a c b d h less = omega (arith, ints)

-- cross products in a chain, for fractions (a - a')/b, (c - c')/d and (e - e')/f
less_then_not_more : (a a' b c c' d e e' f : ℕ) → 1 ≤ b → 1 ≤ d → 1 ≤ f → a * d + c' * b < c * b + a' * d → c * f + e' * d ≤ e * d + c' * f → a * f + e' * b < e * b + a' * f
less_then_not_more a a' b c c' d e e' f hb hd hf left right =
    let p = mul-lt-mul_of_pos_right {k = f} left hf in
    let q = mul-le-mul_right b right in
    lt_of_mul-lt-mul_right d (omega arith)

not_more_then_less : (a a' b c c' d e e' f : ℕ) → 1 ≤ b → 1 ≤ d → 1 ≤ f → a * d + c' * b ≤ c * b + a' * d → c * f + e' * d < e * d + c' * f → a * f + e' * b < e * b + a' * f
not_more_then_less a a' b c c' d e e' f hb hd hf left right =
    let p = mul-le-mul_right f left in
    let q = mul-lt-mul_of_pos_right {k = b} right hb in
    lt_of_mul-lt-mul_right d (omega arith)

pub IsLess-irrefl : (x : ExactTotal) → ¬ (IsLess x x)
IsLess-irrefl x h =
    let p = to_nat x.num x.num x.den x.den h in
    absurd (omega arith)

-- less, and then not more
pub less_not_more : (x y z : ExactTotal) → IsLess x y → ¬ (IsLess z y) → IsLess x z
less_not_more x y z h g =
    from_nat x.num z.num x.den z.den
    (less_then_not_more (up x.num) (down x.num) x.den (up y.num) (down y.num) y.den (up z.num) (down z.num) z.den
    x.positive y.positive z.positive
    (to_nat x.num y.num x.den y.den h) (not_to_nat z.num y.num z.den y.den g))

-- not more, and then less
pub not_more_less : (x y z : ExactTotal) → ¬ (IsLess y x) → IsLess y z → IsLess x z
not_more_less x y z h g =
    from_nat x.num z.num x.den z.den
    (not_more_then_less (up x.num) (down x.num) x.den (up y.num) (down y.num) y.den (up z.num) (down z.num) z.den
    x.positive y.positive z.positive
    (not_to_nat y.num x.num y.den x.den h) (to_nat y.num z.num y.den z.den g))

-- not more, and then not more
pub not_more_trans : (x y z : ExactTotal) → ¬ (IsLess y x) → ¬ (IsLess z y) → ¬ (IsLess z x)
not_more_trans x y z h g less = h (not_more_less y z x g less)

pub IsLess-asym : (x y : ExactTotal) → IsLess x y → ¬ (IsLess y x)
IsLess-asym x y h back =
    let p = to_nat x.num y.num x.den y.den h in
    let q = to_nat y.num x.num y.den x.den back in
    absurd (omega arith)

-- two totals can be compared
pub less_or_not : (x y : ExactTotal) → IsLess x y ⊎ (¬ (IsLess x y))
less_or_not x y =
    decided (cases_lt (up x.num * y.den + down y.num * x.den) (up y.num * x.den + down x.num * y.den))
  where
    decided : (up x.num * y.den + down y.num * x.den < up y.num * x.den + down x.num * y.den) ⊎ (up y.num * x.den + down x.num * y.den ≤ up x.num * y.den + down y.num * x.den) → IsLess x y ⊎ (¬ (IsLess x y))
    decided (inl h) = inl (from_nat x.num y.num x.den y.den h)
    decided (inr h) = inr (not_from_nat x.num y.num x.den y.den h)

pub not_less-same : (x y : ExactTotal) → SameTotal x y → ¬ (IsLess x y)
not_less-same x y h less =
    let p = same_to_nat x.num y.num x.den y.den h in
    let q = to_nat x.num y.num x.den y.den less in
    absurd (omega arith)

pub same_not_less : (x y : ExactTotal) → ¬ (IsLess x y) → ¬ (IsLess y x) → SameTotal x y
same_not_less x y h g =
    let p = not_to_nat x.num y.num x.den y.den h in
    let q = not_to_nat y.num x.num y.den x.den g in
    same_from_nat x.num y.num x.den y.den (omega arith)
