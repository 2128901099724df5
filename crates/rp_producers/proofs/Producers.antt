-- The cost axiom and requirement sets, the profit axiom and production sets (Varian 1984): what was seen rules out all
-- sets where the axiom fails, and where it holds leaves the greatest ones that rationalize it, which are convex.
use Rattle.std.proofs.Common.{ℕ, zero, suc, ◌+◌, ◌*◌, ◌<◌, ◌≤◌, ◌↔◌, inl, inr, ap, refl, sym, subst, arith}
use Rattle.std.proofs.lemmas.Bool.{cases_eq}
use Rattle.std.proofs.Math.Nat.{le_of_mul-le-mul_left, mul-le-mul_left}
use Rattle.std.specs.Prelude.{Bool, true, false, ◌&&◌, IsTrue, nat_le, pos, ◌-ℤ◌, ◌*ℤ◌, ◌≤ℤ◌}
use Rattle.rp_evidence.specs.Demand.{FractionBundle, spending}
use Rattle.rp_evidence.specs.Input.{TableInput}
use Rattle.rp_evidence.specs.WelfareModels.{bundle_at}
use Rattle.rp_people.specs.Bundles.{IsBundle, mixture}
use Rattle.rp_people.proofs.Affine.{spending_mixture}
use Rattle.rp_people.proofs.Differences.{at_most_by, at_most_parts, is_times, less_is, of_whole}
use Rattle.rp_producers.specs.CostAxiom.{MeetsCostAxiom}
use Rattle.rp_producers.specs.OuterSet.{IsInOuterSet}
use Rattle.rp_producers.specs.ProfitAxiom.{MeetsProfitAxiom}
use Rattle.rp_producers.specs.ProductionSets.{HasConvexProductionSet, HasProductionSet, IsConvexProductionSet}
use Rattle.rp_producers.specs.ProductionSets.{RationalizesProfit}
use Rattle.rp_producers.specs.RequirementSets.{AreConvex, AreRequirementSets, HasConvexRequirementSets}
use Rattle.rp_producers.specs.RequirementSets.{HasAtLeastAsMuch, HasRequirementSets, RationalizeCost, sets_by}

-- ---- tests of all numbers below a bound

all_below : ℕ → (ℕ → Bool) → Bool
all_below zero f = true
all_below (suc k) f = f k && all_below k f

and_true : (a b : Bool) → IsTrue (a && b) → IsTrue a × IsTrue b
and_true true b e = (refl, e)
and_true false b e = absurd cc

true_and : (a b : Bool) → IsTrue a → IsTrue b → IsTrue (a && b)
true_and true b e h = h
true_and false b e h = absurd cc

all_there : (n : ℕ) (f : ℕ → Bool) → IsTrue (all_below n f) → (s : ℕ) → s < n → IsTrue (f s)
unfolding all_below
all_there zero f e s l = absurd (omega arith)
all_there (suc k) f e s l = elim (cases_eq s k) [
  | inl same ↦ subst (λ z. IsTrue (f z)) (sym same) (and_true (f k) (all_below k f) e).0
  | inr d ↦ all_there k f (and_true (f k) (all_below k f) e).1 s (omega arith)
]

there_all : (n : ℕ) (f : ℕ → Bool) → ((s : ℕ) → s < n → IsTrue (f s)) → IsTrue (all_below n f)
unfolding all_below
there_all zero f h = refl
there_all (suc k) f h = true_and (f k) (all_below k f) (h k (omega arith)) (there_all k f (λ s l. h s (omega arith)))

where_true : Bool → Bool → Bool
where_true true b = b
where_true false b = true

true_where : (a b : Bool) → IsTrue (where_true a b) → IsTrue a → IsTrue b
unfolding where_true
true_where true b e h = e
true_where false b e h = absurd cc

where_there : (a b : Bool) → (IsTrue a → IsTrue b) → IsTrue (where_true a b)
unfolding where_true
where_there true b h = h refl
where_there false b h = refl

le_test : (a b : ℕ) → (IsTrue (nat_le a b) → a ≤ b) × (a ≤ b → IsTrue (nat_le a b))
le_test a b = (λ e. grind arith, λ l. grind arith)

-- at least as much of every input costs at least as much
spending_at_least : (goods : ℕ) (prices : ℕ → ℕ) (x z : FractionBundle) → HasAtLeastAsMuch goods z x → spending goods prices x.num * z.den ≤ spending goods prices z.num * x.den
spending_at_least goods prices x z more = go goods more
  where
    go : (k : ℕ) → ((g : ℕ) → g < k → x.num g * z.den ≤ z.num g * x.den) → spending k prices x.num * z.den ≤ spending k prices z.num * x.den
    go zero h = omega arith
    go (suc k) h =
        let a = go k (λ g l. h g (omega arith)) in
        let b : prices k * (x.num k * z.den) ≤ prices k * (z.num k * x.den) = mul-le-mul_left (prices k) (h k (omega arith)) in
        omega arith

-- ---- two families that say the same, such as one and what a test of it shows

module _ (P Q : ℕ → FractionBundle → Type 0) (same : (output : ℕ) (x : FractionBundle) → P output x ↔ Q output x) where
  sets_same : (goods : ℕ) → AreRequirementSets goods P → AreRequirementSets goods Q
  sets_same goods sets = record {
    nested = λ low high x ix less e. (same low x).0 (sets.nested low high x ix less ((same high x).1 e));
    disposable = λ output x z ix iz more e. (same output z).0 (sets.disposable output x z ix iz more ((same output x).1 e));
  }

  convex_same : AreConvex P → AreConvex Q
  convex_same convex output a b x z some ix iz first second =
      (same output (mixture a b x z)).0 (convex output a b x z some ix iz ((same output x).1 first) ((same output z).1 second))

  rationalize_same : (input : TableInput) (y : ℕ → ℕ) → RationalizeCost input y P → RationalizeCost input y Q
  rationalize_same input y is = record {
    enough = λ s a. (same (y s) (bundle_at input s)).0 (is.enough s a);
    none_cheaper = λ s x a ix e. is.none_cheaper s x a ix ((same (y s) x).1 e);
  }

  set_same : (goods : ℕ) → IsConvexProductionSet goods P → IsConvexProductionSet goods Q
  set_same goods set = record {
    disposable = λ low high x z ix iz less more e. (same low z).0 (set.disposable low high x z ix iz less more ((same high x).1 e));
    convex = λ output first second a b x z some ix iz total one other.
        (same output (mixture a b x z)).0 (set.convex output first second a b x z some ix iz total ((same first x).1 one) ((same second z).1 other));
  }

  profit_same : (input : TableInput) (y p : ℕ → ℕ) → RationalizesProfit input y p P → RationalizesProfit input y p Q
  profit_same input y p is = record {
    has_each = λ s a. (same (y s) (bundle_at input s)).0 (is.has_each s a);
    none_makes_more = λ s output x a ix e. is.none_makes_more s output x a ix ((same output x).1 e);
  }

-- ---- cost

module _ (input : TableInput) (y : ℕ → ℕ) where
  module _ (suffices : ℕ → FractionBundle → Type 0) (sets : AreRequirementSets input.goods suffices) (rationalize : RationalizeCost input y suffices) where
    pub meets_cost : MeetsCostAxiom input.n input.cost y
    meets_cost t s a b less =
        let there = sets.nested (y t) (y s) (bundle_at input s) (omega arith) less (rationalize.enough s b) in
        let l = rationalize.none_cheaper t (bundle_at input s) a (omega arith) there in
        let e = input.sums t s a b in
        omega arith

    pub sufficing_is_outer : (y0 : ℕ) (x : FractionBundle) → IsBundle x → suffices y0 x → IsInOuterSet input y y0 x
    sufficing_is_outer y0 x ix there = record {
      fraction = ix;
      dear = λ t a less. rationalize.none_cheaper t x a ix (sets.nested (y t) y0 x ix less there);
    }

    pub enough_suffices : (y0 s : ℕ) → s < input.n → y0 ≤ y s → suffices y0 (bundle_at input s)
    enough_suffices y0 s a less = sets.nested y0 (y s) (bundle_at input s) (omega arith) less (rationalize.enough s a)

  -- the outer set: what costs at least what was spent at each observation that made as much or less
  abbrev outer_suffices : ℕ → FractionBundle → Type 0
  outer_suffices output x = (t : ℕ) → t < input.n → y t ≤ output → x.den * input.cost t t ≤ spending input.goods (input.price t) x.num

  outer_sets : AreRequirementSets input.goods outer_suffices
  outer_sets = record {
    nested = λ low high x ix less e t l made. e t l (omega (arith, less, made));
    disposable = λ output x z ix iz more e t l made.
        through x.den z.den (input.cost t t) (spending input.goods (input.price t) x.num) (spending input.goods (input.price t) z.num) ix
        (e t l made) (spending_at_least input.goods (input.price t) x z more);
  }
    where
      through : (d e c a b : ℕ) → 0 < d → d * c ≤ a → a * e ≤ b * d → e * c ≤ b
      through d e c a b some h k =
          let m : e * (d * c) ≤ e * a = mul-le-mul_left e h in
          le_of_mul-le-mul_left {k = d} (omega arith) some

  outer_convex : AreConvex outer_suffices
  outer_convex output a b x z some ix iz first second t l made =
      let h : (a * z.den) * (x.den * input.cost t t) ≤ (a * z.den) * spending input.goods (input.price t) x.num = mul-le-mul_left (a * z.den) (first t l made) in
      let k : (b * x.den) * (z.den * input.cost t t) ≤ (b * x.den) * spending input.goods (input.price t) z.num = mul-le-mul_left (b * x.den) (second t l made) in
      let e = spending_mixture input.goods (input.price t) a b x z in
      omega arith

  outer_rationalize : MeetsCostAxiom input.n input.cost y → RationalizeCost input y outer_suffices
  outer_rationalize holds = record {
    enough = λ s a t l made.
        let e = input.sums t s l a in
        let h = holds t s l a made in
        omega arith;
    none_cheaper = λ s x a ix e. e s a (omega arith);
  }

  -- a test that needs no evidence shows it
  abbrev outer_passes : ℕ → FractionBundle → (ℕ → ℕ) → Bool
  outer_passes output x evidence = all_below input.n (λ t. where_true (nat_le (y t) output) (nat_le (x.den * input.cost t t) (spending input.goods (input.price t) x.num)))

  outer_shown : (output : ℕ) (x : FractionBundle) → outer_suffices output x ↔ sets_by outer_passes output x
  outer_shown output x = (
    λ dear. (
      λ k. 0,
      there_all input.n (λ t. where_true (nat_le (y t) output) (nat_le (x.den * input.cost t t) (spending input.goods (input.price t) x.num)))
          (λ t l. where_there (nat_le (y t) output) (nat_le (x.den * input.cost t t) (spending input.goods (input.price t) x.num))
          (λ e. (le_test (x.den * input.cost t t) (spending input.goods (input.price t) x.num)).1 (dear t l ((le_test (y t) output).0 e)))),
    ),
    λ shown t l less.
        (le_test (x.den * input.cost t t) (spending input.goods (input.price t) x.num)).0
        (true_where (nat_le (y t) output) (nat_le (x.den * input.cost t t) (spending input.goods (input.price t) x.num))
        (all_there input.n (λ t. where_true (nat_le (y t) output) (nat_le (x.den * input.cost t t) (spending input.goods (input.price t) x.num))) shown.1 t l) ((le_test (y t) output).1 less)),
  )

  pub cost_sets : HasRequirementSets input y ↔ MeetsCostAxiom input.n input.cost y
  cost_sets = (
    λ has. meets_cost (sets_by has.passes) has.sets has.rationalize,
    λ holds. record {
      passes = outer_passes;
      sets = sets_same outer_suffices (sets_by outer_passes) outer_shown input.goods outer_sets;
      rationalize = rationalize_same outer_suffices (sets_by outer_passes) outer_shown input y (outer_rationalize holds);
    },
  )

  pub convex_cost_sets : HasConvexRequirementSets input y ↔ MeetsCostAxiom input.n input.cost y
  convex_cost_sets = (
    λ has. meets_cost (sets_by has.passes) has.sets has.rationalize,
    λ holds. record {
      passes = outer_passes;
      sets = sets_same outer_suffices (sets_by outer_passes) outer_shown input.goods outer_sets;
      convex = convex_same outer_suffices (sets_by outer_passes) outer_shown outer_convex;
      rationalize = rationalize_same outer_suffices (sets_by outer_passes) outer_shown input y (outer_rationalize holds);
    },
  )

-- ---- profit

-- a - k is at most v - c
less_more : (a k v c : ℕ) → a + c ≤ v + k → (pos a -ℤ pos k) ≤ℤ (pos v -ℤ pos c)
less_more a k v c l =
    at_most_by (pos a -ℤ pos k) (pos v -ℤ pos c) (a + 0) (0 + k) (v + 0) (0 + c) (less_is (pos a) (pos k) a 0 k 0 (of_whole a) (of_whole k)) (less_is (pos v) (pos c) v 0 c 0 (of_whole v) (of_whole c)) (omega arith)

more_less : (a k v c : ℕ) → (pos a -ℤ pos k) ≤ℤ (pos v -ℤ pos c) → a + c ≤ v + k
more_less a k v c h =
    let l = at_most_parts (pos a -ℤ pos k) (pos v -ℤ pos c) (a + 0) (0 + k) (v + 0) (0 + c) (less_is (pos a) (pos k) a 0 k 0 (of_whole a) (of_whole k)) (less_is (pos v) (pos c) v 0 c 0 (of_whole v) (of_whole c)) h in
    omega arith

-- a - k is at most d times v - c
less_times : (a k v c d : ℕ) → a + c * d ≤ v * d + k → (pos a -ℤ pos k) ≤ℤ ((pos v -ℤ pos c) *ℤ pos d)
less_times a k v c d l =
    at_most_by (pos a -ℤ pos k) ((pos v -ℤ pos c) *ℤ pos d) (a + 0) (0 + k) ((v + 0) * d) ((0 + c) * d)
    (less_is (pos a) (pos k) a 0 k 0 (of_whole a) (of_whole k))
    (is_times (pos v -ℤ pos c) d (v + 0) (0 + c) (less_is (pos v) (pos c) v 0 c 0 (of_whole v) (of_whole c))) (omega arith)

times_less : (a k v c d : ℕ) → (pos a -ℤ pos k) ≤ℤ ((pos v -ℤ pos c) *ℤ pos d) → a + c * d ≤ v * d + k
times_less a k v c d h =
    let l = at_most_parts (pos a -ℤ pos k) ((pos v -ℤ pos c) *ℤ pos d) (a + 0) (0 + k) ((v + 0) * d) ((0 + c) * d)
    (less_is (pos a) (pos k) a 0 k 0 (of_whole a) (of_whole k))
    (is_times (pos v -ℤ pos c) d (v + 0) (0 + c) (less_is (pos v) (pos c) v 0 c 0 (of_whole v) (of_whole c))) h in
    omega arith

module _ (input : TableInput) (y p : ℕ → ℕ) where
  -- at the prices of no observation the output and its inputs make more profit than was made there
  abbrev outer_feasible : ℕ → FractionBundle → Type 0
  outer_feasible output x = (t : ℕ) → t < input.n → (p t * output) * x.den + input.cost t t * x.den ≤ (p t * y t) * x.den + spending input.goods (input.price t) x.num

  outer_set : IsConvexProductionSet input.goods outer_feasible
  outer_set = record {
    disposable = λ low high x z ix iz less more e t l.
        through (p t) low high (input.cost t t) (y t) x.den z.den (spending input.goods (input.price t) x.num) (spending input.goods (input.price t) z.num) ix less
        (e t l) (spending_at_least input.goods (input.price t) x z more);
    convex = λ output first second a b x z some ix iz same one other t l.
        let e = spending_mixture input.goods (input.price t) a b x z in
        let h = mul-le-mul_left (a * z.den) (one t l) in
        let k = mul-le-mul_left (b * x.den) (other t l) in
        let m = ap (λ v. (p t * (x.den * z.den)) * v) same in
        omega arith;
  }
    where
      through : (q low high c v d e a b : ℕ) → 0 < d → low ≤ high → (q * high) * d + c * d ≤ (q * v) * d + a → a * e ≤ b * d → (q * low) * e + c * e ≤ (q * v) * e + b
      through q low high c v d e a b some less h k =
          let m : e * ((q * high) * d + c * d) ≤ e * ((q * v) * d + a) = mul-le-mul_left e h in
          let n : (q * (d * e)) * low ≤ (q * (d * e)) * high = mul-le-mul_left (q * (d * e)) less in
          le_of_mul-le-mul_left {k = d} (omega arith) some

  outer_profit : MeetsProfitAxiom input.n input.cost y p → RationalizesProfit input y p outer_feasible
  outer_profit holds = record {
    has_each = λ s a t l.
        let e = input.sums t s l a in
        let h = more_less (p t * y s) (input.cost t s) (p t * y t) (input.cost t t) (holds t s l a) in
        omega arith;
    none_makes_more = λ s output x a ix e.
        less_times ((p s * output) * x.den) (spending input.goods (input.price s) x.num) (p s * y s) (input.cost s s) x.den (e s a);
  }

  abbrev feasible_passes : ℕ → FractionBundle → (ℕ → ℕ) → Bool
  feasible_passes output x evidence = all_below input.n (λ t. nat_le ((p t * output) * x.den + input.cost t t * x.den) ((p t * y t) * x.den + spending input.goods (input.price t) x.num))

  feasible_shown : (output : ℕ) (x : FractionBundle) → outer_feasible output x ↔ sets_by feasible_passes output x
  feasible_shown output x = (
    λ none. (
      λ k. 0,
      there_all input.n (λ t. nat_le ((p t * output) * x.den + input.cost t t * x.den) ((p t * y t) * x.den + spending input.goods (input.price t) x.num))
          (λ t l. (le_test ((p t * output) * x.den + input.cost t t * x.den) ((p t * y t) * x.den + spending input.goods (input.price t) x.num)).1 (none t l)),
    ),
    λ shown t l.
        (le_test ((p t * output) * x.den + input.cost t t * x.den) ((p t * y t) * x.den + spending input.goods (input.price t) x.num)).0
        (all_there input.n (λ t. nat_le ((p t * output) * x.den + input.cost t t * x.den) ((p t * y t) * x.den + spending input.goods (input.price t) x.num)) shown.1 t l),
  )

  pub meets_profit : (feasible : ℕ → FractionBundle → Type 0) → RationalizesProfit input y p feasible → MeetsProfitAxiom input.n input.cost y p
  meets_profit feasible rationalizes t s a b =
      let h = times_less ((p t * y s) * 1) (spending input.goods (input.price t) (input.quantity s)) (p t * y t) (input.cost t t) 1
      (rationalizes.none_makes_more t (y s) (bundle_at input s) a (omega arith) (rationalizes.has_each s b)) in
      let e = input.sums t s a b in
      less_more (p t * y s) (input.cost t s) (p t * y t) (input.cost t t) (omega arith)

  pub profit_sets : HasProductionSet input y p ↔ MeetsProfitAxiom input.n input.cost y p
  profit_sets = (
    λ has. meets_profit (sets_by has.passes) has.rationalizes,
    λ holds. record { passes = feasible_passes; rationalizes = profit_same outer_feasible (sets_by feasible_passes) feasible_shown input y p (outer_profit holds) },
  )

  pub convex_profit_sets : HasConvexProductionSet input y p ↔ MeetsProfitAxiom input.n input.cost y p
  convex_profit_sets = (
    λ has. meets_profit (sets_by has.passes) has.rationalizes,
    λ holds. record {
      passes = feasible_passes;
      set = set_same outer_feasible (sets_by feasible_passes) feasible_shown input.goods outer_set;
      rationalizes = profit_same outer_feasible (sets_by feasible_passes) feasible_shown input y p (outer_profit holds);
    },
  )
