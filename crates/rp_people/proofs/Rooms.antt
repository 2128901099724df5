-- Where a bundle costs less than what can be spent, whatever is near enough costs no more than that: so a better one can
-- be had by a preference that is locally nonsatiated. A preference with more of every good as better is one such, since a
-- bundle with a little of each good more is near.
use Rattle.std.proofs.Common.{ℕ, zero, suc, ◌+◌, ◌*◌, ◌<◌, ◌≤◌, refl, arith}
use Rattle.std.proofs.Math.Nat.{le_of_mul-le-mul_left, lt_of_mul-lt-mul_left, mul-le-mul_left, mul-pos}
use Rattle.rp_table.specs.Spending.{spending}
use Rattle.rp_evidence.specs.Demand.{FractionBundle}
use Rattle.rp_people.specs.Bundles.{AreEqualInValue, AreWithin, CostsAtMost, CostsLess, HasMoreOfEveryGood, IsBundle}
use Rattle.rp_people.specs.Preferences.{IsBetter, IsNonsatiated, IsNonsatiatedByValue, IsNonsatiatedPreference, IsPreference, IsTransitive, PrefersMore, TreatsAlikeByValue}

-- ---- what is near costs little more

-- 1/parts of each good more cost at most a part of what they all cost
spending_near : (goods : ℕ) (prices x y : ℕ → ℕ) (d e parts : ℕ) → ((g : ℕ) → g < goods → parts * (y g * d) ≤ parts * (x g * e) + 1 * (e * d))
    → parts * (spending goods prices y * d) ≤ parts * (spending goods prices x * e) + (e * d) * spending goods prices (λ g. 1)
spending_near zero prices x y d e parts h = omega arith
spending_near (suc k) prices x y d e parts h =
    let a = spending_near k prices x y d e parts (λ g l. h g (omega arith)) in
    let b : prices k * (parts * (y k * d)) ≤ prices k * (parts * (x k * e) + 1 * (e * d)) = mul-le-mul_left (prices k) (h k (omega arith)) in
    omega arith

fits : (parts den num d e x y s : ℕ) → 0 < parts → 0 < d → den * (d * s) ≤ parts → den * x < num * d → parts * (y * d) ≤ parts * (x * e) + (e * d) * s → den * y ≤ num * e
fits parts den num d e x y s some_parts some enough less near =
    let n : den * (parts * (y * d)) ≤ den * (parts * (x * e) + (e * d) * s) = mul-le-mul_left den near in
    let m : e * (den * (d * s)) ≤ e * parts = mul-le-mul_left e enough in
    let l : (parts * e) * suc (den * x) ≤ (parts * e) * (num * d) = mul-le-mul_left (parts * e) less in
    le_of_mul-le-mul_left {k = parts * d} (omega arith) (mul-pos some_parts some)

-- into so many parts: whatever is within 1/parts of a bundle that costs less than num/den costs at most that
pub enough_parts : ℕ → (ℕ → ℕ) → FractionBundle → ℕ → ℕ
enough_parts goods prices x den = suc (den * (x.den * spending goods prices (λ g. 1)))

pub some_parts : (goods : ℕ) (prices : ℕ → ℕ) (x : FractionBundle) (den : ℕ) → 1 ≤ enough_parts goods prices x den
unfolding enough_parts
some_parts goods prices x den = omega arith

pub near_costs : (goods : ℕ) (prices : ℕ → ℕ) (x y : FractionBundle) (num den : ℕ) → IsBundle x → CostsLess goods prices x num den
    → AreWithin goods y x 1 (enough_parts goods prices x den) → CostsAtMost goods prices y num den
unfolding enough_parts
near_costs goods prices x y num den ix less near =
    fits (suc (den * (x.den * spending goods prices (λ g. 1)))) den num x.den y.den (spending goods prices x.num) (spending goods prices y.num) (spending goods prices (λ g. 1))
    (omega arith) ix (omega arith) less
    (spending_near goods prices x.num y.num x.den y.den (suc (den * (x.den * spending goods prices (λ g. 1)))) (λ g l. (near g l).0))

-- a better bundle that still costs at most num/den
pub record IsRoom (goods : ℕ) (prices : ℕ → ℕ) (prefers : FractionBundle → FractionBundle → Type 0) (x : FractionBundle) (num den : ℕ) : Type 0 where
  pub more : FractionBundle
  pub bundle : IsBundle more
  pub better : IsBetter prefers more x
  pub costs : CostsAtMost goods prices more num den

pub room : (goods : ℕ) (prices : ℕ → ℕ) (prefers : FractionBundle → FractionBundle → Type 0) (x : FractionBundle) (num den : ℕ) → IsNonsatiated goods prefers → IsBundle x → CostsLess goods prices x num den
    → IsRoom goods prices prefers x num den
room goods prices prefers x num den nonsatiated ix less =
    let r = nonsatiated x 1 (enough_parts goods prices x den) ix (omega arith) (some_parts goods prices x den) in
    record { more = r.0; bundle = r.1; better = r.3; costs = near_costs goods prices x r.0 num den ix less r.2 }

-- ---- a little more of every good

-- the bundle and 1/parts of each good
abbrev a_little_more : ℕ → FractionBundle → FractionBundle
a_little_more parts x = record { den = parts * x.den; num = λ g. parts * x.num g + x.den * 1 }

little_more_is : (parts : ℕ) (x : FractionBundle) → 1 ≤ parts → IsBundle x → IsBundle (a_little_more parts x)
little_more_is parts x some ix = mul-pos some ix

little_more_near : (goods : ℕ) (x : FractionBundle) (num den : ℕ) → 1 ≤ num → AreWithin goods (a_little_more den x) x num den
little_more_near goods x num den some g l =
    let k : ((den * x.den) * x.den) * 1 ≤ ((den * x.den) * x.den) * num = mul-le-mul_left ((den * x.den) * x.den) some in
    (omega arith, omega arith)

-- however it is written
little_more_has : (goods : ℕ) (x z : FractionBundle) (parts : ℕ) → 1 ≤ parts → IsBundle x → IsBundle z → AreEqualInValue goods z (a_little_more parts x) → HasMoreOfEveryGood goods z x
little_more_has goods x z parts some ix iz same g l =
    let e = same g l in
    let k : 0 < x.den * z.den = mul-pos ix iz in
    lt_of_mul-lt-mul_left parts (omega arith)

itself_by_value : (goods : ℕ) (x : FractionBundle) → AreEqualInValue goods x x
itself_by_value goods x g l = refl

module _ (goods : ℕ) (prefers : FractionBundle → FractionBundle → Type 0) where
  pub more_is_nonsatiated : PrefersMore goods prefers → IsNonsatiatedByValue goods prefers
  more_is_nonsatiated more x num den ix some_num some_den = (
    a_little_more den x,
    little_more_is den x some_den ix,
    little_more_near goods x num den some_num,
    λ z iz same. more z x iz ix (little_more_has goods x z den some_den ix iz same),
  )

  pub nonsatiated_as_written : IsNonsatiatedByValue goods prefers → IsNonsatiated goods prefers
  nonsatiated_as_written by_value x num den ix some_num some_den =
      let r = by_value x num den ix some_num some_den in
      (r.0, r.1, r.2, r.3 r.0 r.1 (itself_by_value goods r.0))

  -- a preference that takes bundles that are equal in value for the same
  pub nonsatiated_by_value : IsTransitive prefers → TreatsAlikeByValue goods prefers → IsNonsatiated goods prefers → IsNonsatiatedByValue goods prefers
  nonsatiated_by_value transitive alike nonsatiated x num den ix some_num some_den =
      let r = nonsatiated x num den ix some_num some_den in (
        r.0,
        r.1,
        r.2,
        λ z iz same. (
          transitive z r.0 x iz r.1 ix (alike z r.0 iz r.1 same) r.3.0,
          λ back. r.3.1 (transitive x z r.0 ix iz r.1 back (alike z r.0 iz r.1 same)),
        ),
      )

  pub preference_is_nonsatiated : IsPreference goods prefers → IsNonsatiatedPreference goods prefers
  preference_is_nonsatiated is = record {
    complete = is.complete;
    transitive = is.transitive;
    nonsatiated = nonsatiated_as_written (more_is_nonsatiated is.monotone);
  }
