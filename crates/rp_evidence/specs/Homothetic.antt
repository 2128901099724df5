-- The homothetic test (Varian 1983, "Non-parametric Tests of Consumer Behaviour", the homothetic axiom).
-- `c t s` is what the bundle of observation s costs at the prices of observation t.
use Rattle.std.specs.Prelude.{◌≡◌, ℕ, ◌*◌, ◌<◌, ◌≤◌, List, [], ◌∷◌, length, slice_index_or}
use Rattle.rp_num.specs.Fraction.{Fraction, IsLowestTerms, PassesWidth}
use Rattle.rp_evidence.specs.Walk.{AnyStep, IsWalk, IsClosedWalk}
use Rattle.rp_evidence.specs.declared.homothetic.Homothetic.{Homothetic}
use Rattle.rp_evidence.specs.declared.homothetic.Homothetic.TheVariants.{Values, Cycle, Withheld}

-- The product of the numbers f t s over the steps from t to the first of the list, and so on.
abbrev pub product_from : (ℕ → ℕ → ℕ) → ℕ → List ℕ → ℕ
product_from f t [] = 1
product_from f t (s ∷ rest) = f t s * product_from f s rest

-- The product of the numbers f t s over the steps of a walk.
abbrev pub walk_product : (ℕ → ℕ → ℕ) → List ℕ → ℕ
walk_product f [] = 1
walk_product f (t ∷ rest) = product_from f t rest

-- Over the steps of a walk, the product of what the next bundle costs, c(t,s).
abbrev pub next_product : (ℕ → ℕ → ℕ) → List ℕ → ℕ
next_product c walk = walk_product c walk

-- Over the steps of a walk, the product of what was spent, c(t,t).
abbrev pub spent_product : (ℕ → ℕ → ℕ) → List ℕ → ℕ
spent_product c walk = walk_product (λ t s. c t t) walk

-- The test: on every closed walk, however long, the product of the c(t,s) is at least that of the c(t,t).
abbrev pub MeetsHomotheticTest : ℕ → (ℕ → ℕ → ℕ) → Type 0
MeetsHomotheticTest n c = (walk : List ℕ) → IsClosedWalk n AnyStep walk → spent_product c walk ≤ next_product c walk

-- A closed walk on which the product of the c(t,s)/c(t,t) is below 1.
pub record IsFallingCycle (n : ℕ) (c : ℕ → ℕ → ℕ) (walk : List ℕ) : Type 0 where
  pub closed : IsClosedWalk n AnyStep walk
  pub falls : next_product c walk < spent_product c walk

-- The start, multiplied by c(t,s)/c(t,t) at each step of the walk, ends below itself. No start of 0 does.
abbrev pub EndsBelow : (ℕ → ℕ → ℕ) → Fraction → List ℕ → Type 0
EndsBelow c start walk = (start.num * next_product c walk) * start.den < start.num * (start.den * spent_product c walk)

-- From num/den, multiplied by c(t,s)/c(t,t) at each step from t to the first of the list and so on, each product in
-- lowest terms is within the width of fractions.
abbrev pub StepsFitFrom : (ℕ → ℕ → ℕ) → ℕ → ℕ → ℕ → List ℕ → Type 0
StepsFitFrom c num den t [] = Unit {0}
StepsFitFrom c num den t (s ∷ rest) = (¬ (PassesWidth (num * c t s) (den * c t t)))
    × StepsFitFrom c (num * c t s) (den * c t t) s rest

-- Each product from the start along the walk is within the width.
abbrev pub ProductsFit : (ℕ → ℕ → ℕ) → Fraction → List ℕ → Type 0
ProductsFit c start [] = Unit {0}
ProductsFit c start (t ∷ rest) = StepsFitFrom c start.num start.den t rest

-- The fraction x is the least product of the c(t,s)/c(t,t) over all walks that end at s, in lowest terms.
pub record IsLeastProduct (n : ℕ) (c : ℕ → ℕ → ℕ) (s : ℕ) (x : Fraction) : Type 0 where
  pub lowest_terms : IsLowestTerms x.num x.den x
  pub reached : (t : ℕ) × (walk : List ℕ) × IsWalk n AnyStep t s walk
      × (x.num * spent_product c walk ≡ next_product c walk * x.den)
  pub lowest : (t : ℕ) (walk : List ℕ) → IsWalk n AnyStep t s walk
      → x.num * spent_product c walk ≤ next_product c walk * x.den

-- The value of an observation; past the last it is 0.
abbrev pub value_at : List Fraction → ℕ → Fraction
value_at values s = slice_index_or values s (record { num = 0; den = 1 })

-- One positive value for each observation; any t and s have V_s ≤ V_t c(t,s)/c(t,t).
pub record BoundProducts (n : ℕ) (c : ℕ → ℕ → ℕ) (values : List Fraction) : Type 0 where
  pub one_each : length values ≡ n
  pub positive : (s : ℕ) → s < n → (1 ≤ (value_at values s).num) × (1 ≤ (value_at values s).den)
  pub each : (t s : ℕ) → t < n → s < n
      → (value_at values s).num * ((value_at values t).den * c t t)
      ≤ ((value_at values t).num * c t s) * (value_at values s).den

-- Values prove that the test holds: it does, and they are positive and bound the products. A cycle proves that it
-- fails: it is closed and its product is below 1. What is withheld claims nothing.
abbrev pub ProvesHomothetic : ℕ → (ℕ → ℕ → ℕ) → Homothetic → Type 0
ProvesHomothetic n c (Values values) = BoundProducts n c values × MeetsHomotheticTest n c
ProvesHomothetic n c (Cycle start walk) = IsFallingCycle n c walk
ProvesHomothetic n c (Withheld steps from to) = Unit {0}

-- How many of its values a verdict leaves out.
abbrev pub withheld_homothetic : Homothetic → ℕ
withheld_homothetic (Withheld steps from to) = 1
withheld_homothetic _ = 0
