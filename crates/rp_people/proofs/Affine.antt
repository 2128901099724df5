-- What the numbers of a choice allow a bundle is affine in it: over the bundle's denominator it is den A + B cost - den C,
-- with B at least 1. So are its values by value, monotone, and mixed by mixtures.
use Rattle.std.proofs.Common.{◌≡◌, ℕ, zero, suc, ◌+◌, ◌*◌, ◌<◌, ◌≤◌, inl, inr, ap, subst, arith}
use Rattle.std.proofs.lemmas.Bool.{cases_eq}
use Rattle.std.proofs.Math.Nat.{mul-le-mul_left, mul-lt-mul_of_pos_left}
use Rattle.std.specs.Prelude.{ℤ, pos, ◌+ℤ◌, ◌*ℤ◌, ◌<ℤ◌}
use Rattle.rp_table.specs.Spending.{spending}
use Rattle.rp_evidence.specs.Demand.{FractionBundle}
use Rattle.rp_people.specs.Bundles.{AreEqualInValue, HasMoreOfEveryGood, HasMoreOfSomeGood, mixture, multiple}
use Rattle.rp_people.proofs.Differences.{IsDifference, below_by, equal_by, is_times, sum_is, times_is}

-- ---- what bundles cost

pub spending_equal : (goods : ℕ) (prices x y : ℕ → ℕ) (d e : ℕ) → ((g : ℕ) → g < goods → x g * e ≡ y g * d) → spending goods prices x * e ≡ spending goods prices y * d
spending_equal zero prices x y d e h = omega arith
spending_equal (suc k) prices x y d e h =
    let a = spending_equal k prices x y d e (λ g l. h g (omega arith)) in
    let b = ap (λ v. prices k * v) (h k (omega arith)) in
    omega arith

spending_at_most : (goods : ℕ) (prices x y : ℕ → ℕ) (d e : ℕ) → ((g : ℕ) → g < goods → y g * d < x g * e) → spending goods prices y * d ≤ spending goods prices x * e
spending_at_most zero prices x y d e h = omega arith
spending_at_most (suc k) prices x y d e h =
    let a = spending_at_most k prices x y d e (λ g l. h g (omega arith)) in
    let l = h k (omega arith) in
    let b : prices k * (y k * d) ≤ prices k * (x k * e) = mul-le-mul_left (prices k) (omega arith) in
    omega arith

-- more of every good costs more, where some price, as that of the last good, is not 0
pub spending_more : (goods : ℕ) (prices x y : ℕ → ℕ) (d e : ℕ) → 1 ≤ goods → ((g : ℕ) → g < goods → 1 ≤ prices g) → ((g : ℕ) → g < goods → y g * d < x g * e) → spending goods prices y * d < spending goods prices x * e
spending_more zero prices x y d e some positive h = absurd (omega arith)
spending_more (suc k) prices x y d e some positive h =
    let a = spending_at_most k prices x y d e (λ g l. h g (omega arith)) in
    let b : prices k * (y k * d) < prices k * (x k * e) = mul-lt-mul_of_pos_left (h k (omega arith)) (positive k (omega arith)) in
    omega arith

-- no less of any good and more of one costs more, where no price is 0
pub spending_no_less : (goods : ℕ) (prices x y : ℕ → ℕ) (d e : ℕ) → ((g : ℕ) → g < goods → y g * d ≤ x g * e) → spending goods prices y * d ≤ spending goods prices x * e
spending_no_less zero prices x y d e h = omega arith
spending_no_less (suc k) prices x y d e h =
    let a = spending_no_less k prices x y d e (λ g l. h g (omega arith)) in
    let b : prices k * (y k * d) ≤ prices k * (x k * e) = mul-le-mul_left (prices k) (h k (omega arith)) in
    omega arith

pub spending_more_of_one : (goods : ℕ) (prices x y : ℕ → ℕ) (d e one : ℕ) → one < goods → ((g : ℕ) → g < goods → 1 ≤ prices g) → ((g : ℕ) → g < goods → y g * d ≤ x g * e) → y one * d < x one * e
    → spending goods prices y * d < spending goods prices x * e
spending_more_of_one zero prices x y d e one within positive h more = absurd (omega arith)
spending_more_of_one (suc k) prices x y d e one within positive h more = elim (cases_eq one k) [
  | inl same ↦
      let a = spending_no_less k prices x y d e (λ g l. h g (omega arith)) in
      let here : y k * d < x k * e = subst (λ g. y g * d < x g * e) same more in
      let b : prices k * (y k * d) < prices k * (x k * e) = mul-lt-mul_of_pos_left here (positive k (omega arith)) in
      omega arith
  | inr other ↦
      let a = spending_more_of_one k prices x y d e one (omega arith) (λ g l. positive g (omega arith)) (λ g l. h g (omega arith)) more in
      let b : prices k * (y k * d) ≤ prices k * (x k * e) = mul-le-mul_left (prices k) (h k (omega arith)) in
      omega arith
]

pub spending_mixture : (goods : ℕ) (prices : ℕ → ℕ) (a b : ℕ) (x y : FractionBundle)
    → spending goods prices (mixture a b x y).num ≡ (a * y.den) * spending goods prices x.num + (b * x.den) * spending goods prices y.num
spending_mixture goods prices a b x y = go goods
  where
    go : (k : ℕ) → spending k prices (mixture a b x y).num ≡ (a * y.den) * spending k prices x.num + (b * x.den) * spending k prices y.num
    go zero = omega arith
    go (suc k) = let h = go k in omega arith

pub spending_multiple : (goods : ℕ) (prices : ℕ → ℕ) (num den : ℕ) (x : FractionBundle) → spending goods prices (multiple num den x).num ≡ num * spending goods prices x.num
spending_multiple goods prices num den x = go goods
  where
    go : (k : ℕ) → spending k prices (multiple num den x).num ≡ num * spending k prices x.num
    go zero = omega arith
    go (suc k) = let h = go k in omega arith

-- ---- a value that is affine in the bundle

pub record IsAffine (goods : ℕ) (prices : ℕ → ℕ) (a b c : ℕ) (f : FractionBundle → ℤ) : Type 0 where
  pub rises : 1 ≤ b
  pub is : (x : FractionBundle) → IsDifference (f x) (x.den * a + b * spending goods prices x.num) (x.den * c)

module _ (goods : ℕ) (prices : ℕ → ℕ) (a b c : ℕ) (f : FractionBundle → ℤ) (affine : IsAffine goods prices a b c f) where
  -- the value over another denominator
  over : (x : FractionBundle) (d : ℕ) → IsDifference (f x *ℤ pos d) ((x.den * a + b * spending goods prices x.num) * d) ((x.den * c) * d)
  over x d = is_times (f x) d (x.den * a + b * spending goods prices x.num) (x.den * c) (affine.is x)

  pub by_value : (x y : FractionBundle) → AreEqualInValue goods x y → f x *ℤ pos y.den ≡ f y *ℤ pos x.den
  by_value x y same =
      let e : spending goods prices x.num * y.den ≡ spending goods prices y.num * x.den = spending_equal goods prices x.num y.num x.den y.den same in
      let be = ap (λ v. b * v) e in
      equal_by (f x *ℤ pos y.den) (f y *ℤ pos x.den) _ _ _ _ (over x y.den) (over y x.den) (omega arith)

  pub more_is_more : (x y : FractionBundle) → 1 ≤ goods → ((g : ℕ) → g < goods → 1 ≤ prices g) → HasMoreOfEveryGood goods x y → (f y *ℤ pos x.den) <ℤ (f x *ℤ pos y.den)
  more_is_more x y some positive more =
      let l : spending goods prices y.num * x.den < spending goods prices x.num * y.den = spending_more goods prices x.num y.num x.den y.den some positive more in
      let bl : b * (spending goods prices y.num * x.den) < b * (spending goods prices x.num * y.den) = mul-lt-mul_of_pos_left l affine.rises in
      below_by (f y *ℤ pos x.den) (f x *ℤ pos y.den) _ _ _ _ (over y x.den) (over x y.den) (omega arith)

  pub more_of_some_is_more : (x y : FractionBundle) → ((g : ℕ) → g < goods → 1 ≤ prices g) → HasMoreOfSomeGood goods x y → (f y *ℤ pos x.den) <ℤ (f x *ℤ pos y.den)
  more_of_some_is_more x y positive more =
      let l : spending goods prices y.num * x.den < spending goods prices x.num * y.den = spending_more_of_one goods prices x.num y.num x.den y.den more.good more.among positive more.no_less more.more in
      let bl : b * (spending goods prices y.num * x.den) < b * (spending goods prices x.num * y.den) = mul-lt-mul_of_pos_left l affine.rises in
      below_by (f y *ℤ pos x.den) (f x *ℤ pos y.den) _ _ _ _ (over y x.den) (over x y.den) (omega arith)

  pub mixed_by_mixtures : (p q : ℕ) (x y : FractionBundle) → (pos p *ℤ (f x *ℤ pos y.den)) +ℤ (pos q *ℤ (f y *ℤ pos x.den)) ≡ f (mixture p q x y)
  mixed_by_mixtures p q x y =
      let e = spending_mixture goods prices p q x y in
      let be = ap (λ v. b * v) e in
      equal_by ((pos p *ℤ (f x *ℤ pos y.den)) +ℤ (pos q *ℤ (f y *ℤ pos x.den))) (f (mixture p q x y)) _ _ _ _
      (sum_is (pos p *ℤ (f x *ℤ pos y.den)) (pos q *ℤ (f y *ℤ pos x.den)) _ _ _ _
      (times_is p (f x *ℤ pos y.den) _ _ (over x y.den)) (times_is q (f y *ℤ pos x.den) _ _ (over y x.den)))
      (affine.is (mixture p q x y)) (omega arith)

  pub multiplied : a ≡ c → (num den : ℕ) (x : FractionBundle) → f (multiple num den x) ≡ pos num *ℤ f x
  multiplied same num den x =
      let e = spending_multiple goods prices num den x in
      let be = ap (λ v. b * v) e in
      let ae = ap (λ v. (num * x.den) * v) same in
      let ce = ap (λ v. (den * x.den) * v) same in
      equal_by (f (multiple num den x)) (pos num *ℤ f x) _ _ _ _ (affine.is (multiple num den x)) (times_is num (f x) _ _ (affine.is x)) (omega arith)
