-- From what the rounds settle on, as fractions, to the words of the homothetic test, which are products of whole
-- numbers: least products, values that bound them, falling cycles, and where the width is passed.
use Rattle.std.proofs.Common.{All, ◌*◌, ap, subst, ◌≡◌, ℕ, zero, suc, ◌<◌, ◌≤◌, ◌↔◌, arith, refl, sym, ◌∙◌, List, [], ◌∷◌, length, ◌⊎◌, inl, inr, ◌/◌, ◌^◌}
use Rattle.std.proofs.lemmas.Bool.{cases_lt}
use Rattle.std.proofs.Math.Nat.{eq-one_of_dvd-one, one-le-mul, mul-le-mul_left, mul-lt-mul_of_pos_right}
use Rattle.std.specs.Prelude.{ℤ, pos, ◌*ℤ◌, ◌<ℤ◌}
use Rattle.rp_num.specs.Fraction.{Fraction, FitsWidth, IsLowestTerms, PassesWidth}
use Rattle.rp_num.proofs.Lowest.{FitsWidth-divided, IsLowestTerms-divided, not_PassesWidth, same_lowest}
use Rattle.rp_num.proofs.Coprime.{IsGcd-exists}
use Rattle.rp_walk.specs.ExactTotal.{ExactTotal, IsLess, SameTotal}
use Rattle.rp_walk.specs.Walk.{AreObservations, total_after}
use Rattle.rp_walk.specs.LeastTotals.{IsLeast, StepsFitAlong, WalkFits}
use Rattle.rp_walk.specs.Settled.{HasLeastTotals, IsFirstBreakingPair, FallsBelowStart, NoPairBreaks, PairBreaks}
use Rattle.rp_walk.specs.Outcome.{SettlesInCycle, SettlesInValues, SettlesInWide, IsBreakingCycle, IsRoundCycle}
use Rattle.rp_walk.proofs.Order.{not_more_trans, not_less-same}
use Rattle.rp_walk.proofs.Leads.{leads_from, leads_to}
use Rattle.rp_walk.proofs.Numbers.{less-pos, pos-less, same_pos}
use Rattle.rp_walk.proofs.Walks.{IsTotal-here, IsTotal-further}
use Rattle.rp_walk.proofs.Paths.{after-same}
use Rattle.rp_walk.proofs.Central.{no_walk_falls}
use Rattle.rp_evidence.specs.Walk.{AnyStep, IsClosedWalk, IsWalk, LeadsTo}
use Rattle.rp_evidence.specs.Homothetic.{BoundProducts, EndsBelow, IsFallingCycle, IsLeastProduct, MeetsHomotheticTest, ProductsFit, StepsFitFrom, next_product, spent_product, product_from, value_at}
use Rattle.rp_evidence.proofs.Walks.{starts_below}
use Rattle.rp_walk.specs.Products.{FitsFraction, as_total, at_least_one, products, times}
use Rattle.rp_walk.proofs.ProductLaws.{products_keep_order}
use Rattle.rp_homo.specs.HomotheticVerdict.{GivesCycle, GivesValues, GivesWithheld, IsFirstFall, IsLongCycle, IsPairCycle, NoPairFalls, PairFalls}
use Rattle.rp_homo.proofs.Steps.{at_least_one-is}
use Rattle.rp_homo.proofs.Walks.{Positive, across, own, breaks_by_costs, den_after, ends_below, falls_from, num_after, product_from-across, product_from-own, products_treat_starts_alike}

-- ---- fractions of whole numbers, in the two ways of writing them

same_fraction : (z : ℤ) (d p q e f : ℕ) (m : ℕ) → z ≡ pos p → d ≡ q → e ≡ f → z *ℤ pos e ≡ pos m *ℤ pos d → m * q ≡ p * f
same_fraction z d p q e f m ez ed ee h =
    let g : pos (p * f) ≡ pos (m * q) = rw (ez, ed, ee) at h in
    sym (same_pos (p * f) (m * q) g)

less_fraction : (z : ℤ) (d p q e f : ℕ) (m : ℕ) → z ≡ pos p → d ≡ q → e ≡ f → p * f < m * q → (z *ℤ pos e) <ℤ (pos m *ℤ pos d)
less_fraction z d p q e f m ez ed ee h = rw (ez, ed, ee) (pos-less (p * f) (m * q) h)

at_most_fraction : (z : ℤ) (d p q e f : ℕ) (m : ℕ) → z ≡ pos p → d ≡ q → e ≡ f → ¬ ((z *ℤ pos e) <ℤ (pos m *ℤ pos d)) → m * q ≤ p * f
at_most_fraction z d p q e f m ez ed ee h = decided (cases_lt (p * f) (m * q))
  where
    decided : (p * f < m * q) ⊎ (m * q ≤ p * f) → m * q ≤ p * f
    decided (inl l) = absurd (h (less_fraction z d p q e f m ez ed ee l))
    decided (inr l) = l

-- ---- the total of a walk from no step

num_of_walk : (n : ℕ) (c : ℕ → ℕ → ℕ) → Positive n c → (t : ℕ) (rest : List ℕ) → AreObservations (products n c) t rest → (total_after (products n c) (products n c).empty t rest).num ≡ pos (product_from c t rest)
num_of_walk n c positive t rest walk =
    num_after n c (products n c).empty 1 t rest refl ∙ ap pos (one_times (product_from (across c) t rest))
    ∙ ap pos (product_from-across n c positive t rest walk.begins_within walk.goes_within)
  where
    one_times : (a : ℕ) → 1 * a ≡ a
    one_times a = omega arith

den_of_walk : (n : ℕ) (c : ℕ → ℕ → ℕ) → Positive n c → (t : ℕ) (rest : List ℕ) → AreObservations (products n c) t rest → (total_after (products n c) (products n c).empty t rest).den ≡ product_from (λ i j. c i i) t rest
den_of_walk n c positive t rest walk =
    den_after n c (products n c).empty t rest ∙ one_times (product_from (own c) t rest)
    ∙ product_from-own n c positive t rest walk.begins_within walk.goes_within
  where
    one_times : (a : ℕ) → 1 * a ≡ a
    one_times a = omega arith

-- ---- least products

pub IsLeastProduct-least : (n : ℕ) (c : ℕ → ℕ → ℕ) → Positive n c → (s : ℕ) (f : Fraction) → IsLowestTerms f.num f.den f → IsLeast (products n c) s (as_total f) → IsLeastProduct n c s f
IsLeastProduct-least n c positive s f terms least =
    let r = least.reached in
    let t = r.2 in
    let w = total_after (products n c) (products n c).empty t.first t.rest in
    record {
      lowest_terms = terms;
      reached = (
        t.first,
        t.first ∷ t.rest,
        (refl, leads_from n t.first s t.rest t.walk.begins_within t.walk.goes_within t.ends),
        same_fraction w.num w.den (product_from c t.first t.rest) (product_from (λ i j. c i i) t.first t.rest) (at_least_one f.den) f.den f.num
            (num_of_walk n c positive t.first t.rest t.walk) (den_of_walk n c positive t.first t.rest t.walk) (at_least_one-is f.den terms.positive)
            (subst (λ (x : ExactTotal). SameTotal x (as_total f)) (sym t.total) r.3),
      );
      lowest = λ t walk h. lowest t walk h;
    }
  where
    lowest : (t : ℕ) (walk : List ℕ) → IsWalk n AnyStep t s walk → f.num * spent_product c walk ≤ next_product c walk * f.den
    lowest t [] h = absurd h
    lowest t (x ∷ rest) h =
        let way = leads_to (products n c) x s rest h.1 in
        let w = total_after (products n c) (products n c).empty x rest in
        let kept = least.lowest (length rest) w (record { first = x; rest = rest; walk = way.0; steps = refl; ends = way.1; total = refl }) in
        at_most_fraction w.num w.den (product_from c x rest) (product_from (λ i j. c i i) x rest) (at_least_one f.den) f.den f.num
        (num_of_walk n c positive x rest way.0) (den_of_walk n c positive x rest way.0) (at_least_one-is f.den terms.positive) kept

abbrev pub AllLowest : ℕ → List Fraction → Type 0
AllLowest n values = (s : ℕ) → s < n → IsLowestTerms (value_at values s).num (value_at values s).den (value_at values s)

abbrev pub AllFit : ℕ → List Fraction → Type 0
AllFit n values = (s : ℕ) → s < n → FitsWidth (value_at values s)

abbrev pub AllLeast : ℕ → (ℕ → ℕ → ℕ) → List Fraction → Type 0
AllLeast n c values = (s : ℕ) → s < n → IsLeast (products n c) s (as_total (value_at values s))

HasLeastTotals-values : (n : ℕ) (c : ℕ → ℕ → ℕ) (values : List Fraction) → AllLeast n c values → HasLeastTotals (products n c)
HasLeastTotals-values n c values least s hs = (as_total (value_at values s), least s hs)

pub MeetsHomotheticTest-least : (n : ℕ) (c : ℕ → ℕ → ℕ) → Positive n c → HasLeastTotals (products n c) → MeetsHomotheticTest n c
MeetsHomotheticTest-least n c positive all walk closed = decided (cases_lt (next_product c walk) (spent_product c walk))
  where
    violation : (walk : List ℕ) → IsClosedWalk n AnyStep walk → next_product c walk < spent_product c walk → FallsBelowStart (products n c) (products n c).empty walk
    violation [] closed falls = absurd closed.1
    violation (x ∷ rest) closed falls =
        let way = leads_to (products n c) x closed.0 rest closed.1.1 in
        let ea = product_from-across n c positive x rest way.0.begins_within way.0.goes_within in
        let eo = product_from-own n c positive x rest way.0.begins_within way.0.goes_within in
        record {
          first = x;
          rest = rest;
          is_walk = way.0;
          walk_is = refl;
          has_step = omega (arith, closed.2);
          closed = way.1 ∙ sym closed.1.0;
          start_reached = (0, (products n c).empty, IsTotal-here (products n c) x way.0.begins_within, refl);
          ends_below = ends_below n c (products n c).empty 1 x rest (omega arith) refl (omega (arith, ea, eo, falls));
        }

    decided : (next_product c walk < spent_product c walk) ⊎ (spent_product c walk ≤ next_product c walk) → spent_product c walk ≤ next_product c walk
    decided (inr l) = l
    decided (inl l) = absurd (no_walk_falls (products n c) (products_keep_order n c) (products_treat_starts_alike n c) all (products n c).empty walk (violation walk closed l))

-- ---- the values bound the products

positive_value : (p q m d : ℕ) → 1 ≤ p → 1 ≤ d → m * q ≡ p * d → 1 ≤ m
positive_value p q zero d hp hd e =
    let h = one-le-mul hp hd in
    absurd (omega (arith, h, e))
positive_value p q (suc m) d hp hd e = omega arith

next_product-positive : (n : ℕ) (c : ℕ → ℕ → ℕ) → Positive n c → (t s : ℕ) (rest : List ℕ) → LeadsTo n AnyStep t s rest → 1 ≤ product_from c t rest
next_product-positive n c positive t s [] h = omega arith
next_product-positive n c positive t s (x ∷ rest) h =
    one-le-mul (positive t x h.0 (starts_below n AnyStep x s rest h.2)) (next_product-positive n c positive x s rest h.2)

num_positive : (n : ℕ) (c : ℕ → ℕ → ℕ) → Positive n c → (s : ℕ) (f : Fraction) → IsLeastProduct n c s f → 1 ≤ f.num
num_positive n c positive s f least =
    let r = least.reached in
    go r.0 r.1 r.2 r.3
  where
    go : (t : ℕ) (walk : List ℕ) → IsWalk n AnyStep t s walk → f.num * spent_product c walk ≡ next_product c walk * f.den → 1 ≤ f.num
    go t [] h e = absurd h
    go t (x ∷ rest) h e =
        positive_value (product_from c x rest) (product_from (λ i j. c i i) x rest) f.num f.den (next_product-positive n c positive x s rest h.1) least.lowest_terms.positive e

pub BoundProducts-least : (n : ℕ) (c : ℕ → ℕ → ℕ) → Positive n c → (values : List Fraction) → length values ≡ n → AllLowest n values → AllLeast n c values → BoundProducts n c values
BoundProducts-least n c positive values len terms least = record {
  one_each = len;
  positive = λ s hs. (num_positive n c positive s (value_at values s) (IsLeastProduct-least n c positive s (value_at values s) (terms s hs) (least s hs)), (terms s hs).positive);
  each = λ t s ht hs. bound t s (value_at values t) (value_at values s) ht hs (terms t ht) (terms s hs) (least t ht) (least s hs);
}
  where
    bound : (t s : ℕ) (v x : Fraction) → t < n → s < n → IsLowestTerms v.num v.den v → IsLowestTerms x.num x.den x → IsLeast (products n c) t (as_total v) → IsLeast (products n c) s (as_total x) → x.num * (v.den * c t t) ≤ (v.num * c t s) * x.den
    bound t s v x ht hs tv tx at_t at_s =
        let r = at_t.reached in
        let further = IsTotal-further (products n c) r.0 t s r.1 r.2 hs in
        let kept = at_s.lowest (suc r.0) ((products n c).after r.1 t s) further in
        let steps = after-same (products n c) (products_keep_order n c) r.1 (as_total v) t s ht hs r.3 in
        let here : ¬ (IsLess ((products n c).after (as_total v) t s) (as_total x)) =
        not_more_trans (as_total x) ((products n c).after r.1 t s) ((products n c).after (as_total v) t s) kept (not_less-same ((products n c).after (as_total v) t s) ((products n c).after r.1 t s) (sym steps)) in
        at_most_fraction (pos (v.num * at_least_one (c t s))) (at_least_one v.den * at_least_one (c t t)) (v.num * c t s) (v.den * c t t) (at_least_one x.den) x.den x.num
        (λ i. pos (v.num * at_least_one-is (c t s) (positive t s ht hs) i))
        (λ i. at_least_one-is v.den tv.positive i * at_least_one-is (c t t) (positive t t ht ht) i)
        (at_least_one-is x.den tx.positive) here

-- ---- cycles

pub NoPairFalls-breaks : (n : ℕ) (c : ℕ → ℕ → ℕ) → Positive n c → NoPairBreaks (products n c) → NoPairFalls n c
NoPairFalls-breaks n c positive none s t order ht falls =
    let hs : s < n = omega (arith, order, ht) in
    none s t order ht ((breaks_by_costs n c s t hs (positive s t hs ht) (positive t s ht hs) (positive s s hs hs) (positive t t ht ht)).0 falls)

IsFirstFall-pair : (n : ℕ) (c : ℕ → ℕ → ℕ) → Positive n c → (s t : ℕ) → IsFirstBreakingPair (products n c) s t → IsFirstFall n c s t
IsFirstFall-pair n c positive s t first = record {
  in_order = first.in_order;
  within = first.within;
  falls = (by_costs s t first.in_order first.within).1 first.breaks;
  none_before = λ s' t' before order ht falls. first.none_before s' t' before order ht ((by_costs s' t' order ht).0 falls);
}
  where
    by_costs : (i j : ℕ) → i < j → j < n → PairFalls c i j ↔ PairBreaks (products n c) i j
    by_costs i j order hj =
        let hi : i < n = omega (arith, order, hj) in
        breaks_by_costs n c i j hi (positive i j hi hj) (positive j i hj hi) (positive i i hi hi) (positive j j hj hj)

pub IsClosedWalk-falls : (n : ℕ) (c : ℕ → ℕ → ℕ) (start : ExactTotal) (walk : List ℕ) → FallsBelowStart (products n c) start walk → IsClosedWalk n AnyStep walk
IsClosedWalk-falls n c start walk v =
    subst (λ (xs : List ℕ). IsClosedWalk n AnyStep xs) (sym v.walk_is)
    (v.first, (refl, leads_from n v.first v.first v.rest v.is_walk.begins_within v.is_walk.goes_within v.closed), omega (arith, v.has_step))

-- what the start is multiplied by along the walk is below 1, and the start is not 0
falls_along : (n : ℕ) (c : ℕ → ℕ → ℕ) → Positive n c → (start : Fraction) (walk : List ℕ) → FallsBelowStart (products n c) (as_total start) walk → (1 ≤ start.num) × (next_product c walk < spent_product c walk)
falls_along n c positive start walk v =
    let ea = product_from-across n c positive v.first v.rest v.is_walk.begins_within v.is_walk.goes_within in
    let eo = product_from-own n c positive v.first v.rest v.is_walk.begins_within v.is_walk.goes_within in
    let less = falls_from n c (as_total start) start.num v.first v.rest refl v.ends_below in (
      not_zero start.num (total_after (products n c) (as_total start) v.first v.rest).num (at_least_one start.den) (product_from (across c) v.first v.rest) (total_after (products n c) (as_total start) v.first v.rest).den
          (num_after n c (as_total start) start.num v.first v.rest refl) v.ends_below,
      subst (λ (xs : List ℕ). next_product c xs < spent_product c xs) (sym v.walk_is) (omega (arith, ea, eo, less)),
    )
  where
    not_zero : (m : ℕ) (z : ℤ) (d p e : ℕ) → z ≡ pos (m * p) → (z *ℤ pos d) <ℤ (pos m *ℤ pos e) → 1 ≤ m
    not_zero zero z d p e ez h =
        let g : pos (0 * p * d) <ℤ pos (0 * e) = rw ez at h in
        absurd (omega (arith, less-pos (0 * p * d) (0 * e) g))
    not_zero (suc m) z d p e ez h = omega arith

ends_below_start : (c : ℕ → ℕ → ℕ) (start : Fraction) (walk : List ℕ) → 1 ≤ start.num → 1 ≤ start.den → next_product c walk < spent_product c walk → EndsBelow c start walk
ends_below_start c start walk hn hd h = scaled start.num start.den (next_product c walk) (spent_product c walk) hn hd h
  where
    scaled : (m d p q : ℕ) → 1 ≤ m → 1 ≤ d → p < q → (m * p) * d < m * (d * q)
    scaled m d p q hm hd h =
        let h1 = mul-lt-mul_of_pos_right {k = m} h hm in
        let h2 = mul-lt-mul_of_pos_right {k = d} h1 hd in
        omega (arith, h2)

pub IsFallingCycle-falls : (n : ℕ) (c : ℕ → ℕ → ℕ) → Positive n c → (start : Fraction) (walk : List ℕ) → FallsBelowStart (products n c) (as_total start) walk → IsFallingCycle n c walk
IsFallingCycle-falls n c positive start walk v = record {
  closed = IsClosedWalk-falls n c (as_total start) walk v;
  falls = (falls_along n c positive start walk v).1;
}

-- ---- products within the width

within_width : (x : ExactTotal) (m d a b : ℕ) → x.num ≡ pos m → x.den ≡ d → 1 ≤ a → 1 ≤ b → ¬ (¬ (FitsFraction (times x a b))) → ¬ (PassesWidth (m * a) (d * b))
within_width x m d a b em ed ha hb fits wide = fits (λ f. not_PassesWidth (m * a) (d * b) f.0 (one-le-mul (subst (λ k. 1 ≤ k) ed x.positive) hb) (is_lowest f.0 f.1 f.3) f.2 wide)
  where
    is_lowest : (f : Fraction) → IsLowestTerms f.num f.den f → SameTotal (times x a b) (as_total f) → IsLowestTerms (m * a) (d * b) f
    is_lowest f terms same = record {
      positive = terms.positive;
      coprime = terms.coprime;
      same_number = same_fraction (x.num *ℤ pos (at_least_one a)) (x.den * at_least_one b) (m * a) (d * b) (at_least_one f.den) f.den f.num
          (λ i. em i *ℤ pos (at_least_one-is a ha i)) (λ i. ed i * at_least_one-is b hb i) (at_least_one-is f.den terms.positive) same;
    }

steps_fit_along : (n : ℕ) (c : ℕ → ℕ → ℕ) → Positive n c → (x : ExactTotal) (m d t : ℕ) (rest : List ℕ) → x.num ≡ pos m → x.den ≡ d → t < n → All (λ s. s < n) rest → StepsFitAlong (products n c) FitsFraction x t rest → StepsFitFrom c m d t rest
steps_fit_along n c positive x m d t [] em ed ht within fit = tt
steps_fit_along n c positive x m d t (s ∷ rest) em ed ht within fit =
    let hs : s < n = within 0 s (omega arith) in (
      within_width x m d (c t s) (c t t) em ed (positive t s ht hs) (positive t t ht ht) fit.0,
      steps_fit_along n c positive (times x (c t s) (c t t)) (m * c t s) (d * c t t) s rest
          (λ i. em i *ℤ pos (at_least_one-is (c t s) (positive t s ht hs) i)) (λ i. ed i * at_least_one-is (c t t) (positive t t ht ht) i)
          hs (λ k e below. within (suc k) e (omega arith)) fit.1,
    )

walk_fits : (n : ℕ) (c : ℕ → ℕ → ℕ) → Positive n c → (start : Fraction) (walk : List ℕ) → 1 ≤ start.den → IsClosedWalk n AnyStep walk → WalkFits (products n c) FitsFraction (as_total start) walk → ProductsFit c start walk
walk_fits n c positive start [] hd closed fit = tt
walk_fits n c positive start (x ∷ rest) hd closed fit =
    let way = leads_to (products n c) x closed.0 rest closed.1.1 in
    steps_fit_along n c positive (as_total start) start.num start.den x rest refl (at_least_one-is start.den hd) way.0.begins_within way.0.goes_within fit

-- numbers within the width have lowest terms within it
small_fits : (a b : ℕ) → 1 ≤ b → a < 2 ^ 127 → b < 2 ^ 127 → ¬ (PassesWidth a b)
small_fits a b hb fa fb =
    let g = IsGcd-exists a b in
    not_PassesWidth a b (record { num = a / g.0; den = b / g.0 }) hb (IsLowestTerms-divided a b g.0 hb g.1) (FitsWidth-divided a b g.0 fa fb)

-- costs of n observations are below 2^51
abbrev pub Limited : ℕ → (ℕ → ℕ → ℕ) → Type 0
Limited n c = (t s : ℕ) → t < n → s < n → c t s < 2 ^ 51

small_product : (a b : ℕ) → a < 2 ^ 51 → b < 2 ^ 51 → a * b < 2 ^ 127
small_product a b ha hb =
    let h : b ≤ 2 ^ 51 = omega arith in
    omega (arith, mul-le-mul_left a h)

-- the products of two steps from 1 are within the width
pair_fits : (n : ℕ) (c : ℕ → ℕ → ℕ) → Positive n c → Limited n c → (s t : ℕ) → s < n → t < n → ProductsFit c (record { num = 1; den = 1 }) (s ∷ t ∷ s ∷ [])
pair_fits n c positive limited s t hs ht = (
  one_step (c s t) (c s s) (positive s s hs hs) (limited s t hs ht) (limited s s hs hs),
  (two_steps (c s t) (c t s) (c s s) (c t t) (positive s s hs hs) (positive t t ht ht) (limited s t hs ht) (limited t s ht hs) (limited s s hs hs) (limited t t ht ht), tt),
)
  where
    one_step : (a b : ℕ) → 1 ≤ b → a < 2 ^ 51 → b < 2 ^ 51 → ¬ (PassesWidth (1 * a) (1 * b))
    one_step a b hb la lb = small_fits (1 * a) (1 * b) (omega arith) (omega arith) (omega arith)

    two_steps : (a b d e : ℕ) → 1 ≤ d → 1 ≤ e → a < 2 ^ 51 → b < 2 ^ 51 → d < 2 ^ 51 → e < 2 ^ 51 → ¬ (PassesWidth (1 * a * b) (1 * d * e))
    two_steps a b d e hd he la lb ld le =
        let den = one-le-mul hd he in
        small_fits (1 * a * b) (1 * d * e) (omega (arith, den)) (omega (arith, small_product a b la lb)) (omega (arith, small_product d e ld le))

-- ---- the verdicts

pub GivesValues-settled : (n : ℕ) (c : ℕ → ℕ → ℕ) → Positive n c → (values : List Fraction) → AllLowest n values → AllFit n values → SettlesInValues (products n c) FitsFraction as_total values → GivesValues n c values
GivesValues-settled n c positive values terms fit h = record {
  no_pair = NoPairFalls-breaks n c positive h.no_pair;
  none_too_wide = h.none_too_wide;
  holds = MeetsHomotheticTest-least n c positive (HasLeastTotals-values n c values (λ s hs. h.least s _ hs));
  one_each = h.one_each;
  fit = fit;
  least = λ s hs. IsLeastProduct-least n c positive s (value_at values s) (terms s hs) (h.least s _ hs);
  steps_fit = λ t s ht hs.
      within_width (as_total (value_at values t)) (value_at values t).num (value_at values t).den (c t s) (c t t) refl
      (at_least_one-is (value_at values t).den (terms t ht).positive) (positive t s ht hs) (positive t t ht ht) (h.steps_fit t s _ ht hs);
}

pub GivesCycle-settled : (n : ℕ) (c : ℕ → ℕ → ℕ) → Positive n c → Limited n c → (start : Fraction) (walk : List ℕ) → IsLowestTerms start.num start.den start → FitsWidth start → SettlesInCycle (products n c) FitsFraction (as_total start) walk → GivesCycle n c start walk
GivesCycle-settled n c positive limited start walk terms fits h =
    let falls = falls_along n c positive start walk h.falls in
    record {
      closed = IsClosedWalk-falls n c (as_total start) walk h.falls;
      simple = h.simple;
      lowest_terms = terms;
      fits = fits;
      ends_below = ends_below_start c start walk falls.0 terms.positive falls.1;
      products_fit = products_fit h.comes;
      comes = comes h.comes;
    }
  where
    one_lowest : (start : Fraction) → IsLowestTerms start.num start.den start → SameTotal (as_total start) (products n c).empty → start ≡ record { num = 1; den = 1 }
    one_lowest start terms same =
        same_lowest start (record { num = 1; den = 1 }) terms.positive (omega arith) terms.coprime (λ d left right. eq-one_of_dvd-one left)
        (same_pos (start.num * 1) (1 * start.den) (same ∙ (λ i. pos (1 * at_least_one-is start.den terms.positive i))))

    comes : IsBreakingCycle (products n c) (as_total start) walk ⊎ IsRoundCycle (products n c) FitsFraction (as_total start) walk → IsPairCycle n c start walk ⊎ IsLongCycle n c start walk
    comes (inl p) = inl (record {
      s = p.s;
      t = p.t;
      first_pair = IsFirstFall-pair n c positive p.s p.t p.first_pair;
      start_is = one_lowest start terms p.start_empty;
      walk_is = p.walk_is;
    })
    comes (inr l) = inr (record { no_pair = NoPairFalls-breaks n c positive l.no_pair; none_too_wide = l.none_too_wide; first_part = l.first_part })

    products_fit : IsBreakingCycle (products n c) (as_total start) walk ⊎ IsRoundCycle (products n c) FitsFraction (as_total start) walk → ProductsFit c start walk
    products_fit (inl p) =
        let hs : p.s < n = omega (arith, p.first_pair.in_order, p.first_pair.within) in
        subst (λ (xs : List ℕ). ProductsFit c start xs) (sym p.walk_is)
        (subst (λ (f : Fraction). ProductsFit c f (p.s ∷ p.t ∷ p.s ∷ [])) (sym (one_lowest start terms p.start_empty)) (pair_fits n c positive limited p.s p.t hs p.first_pair.within))
    products_fit (inr l) = walk_fits n c positive start walk terms.positive (IsClosedWalk-falls n c (as_total start) walk h.falls) l.steps_fit

pub GivesWithheld-settled : (n : ℕ) (c : ℕ → ℕ → ℕ) → Positive n c → (k t s : ℕ) → SettlesInWide (products n c) FitsFraction k t s → GivesWithheld n c k t s
GivesWithheld-settled n c positive k t s h = record { no_pair = NoPairFalls-breaks n c positive h.no_pair; first = h.first }
