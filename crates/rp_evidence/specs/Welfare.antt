-- Bounds on the money metric: what it costs at new prices to be as well off as at an observation (after Varian 1982).
use Rattle.std.specs.Prelude.{◌≡◌, ℕ, ◌*◌, ◌<◌, ◌≤◌, ℤ, pos, ◌*ℤ◌, ◌≤ℤ◌, ◌<ℤ◌, List}
use Rattle.rp_evidence.specs.Afriat.{IsUtility}
use Rattle.rp_evidence.specs.Demand.{FractionBundle, spending}
use Rattle.rp_evidence.specs.Enumeration.{Enumerates}
use Rattle.rp_evidence.specs.Input.{TableInput}
use Rattle.rp_evidence.specs.Preference.{IsWeak}
use Rattle.rp_evidence.specs.Walk.{IsWalk}

-- A walk of weak steps, or of no step, leads from s to t: s equals or reaches t.
abbrev pub EqualsOrReaches : TableInput → ℕ → ℕ → Type 0
EqualsOrReaches input s t = (walk : List ℕ) × IsWalk input.n (IsWeak input.cost) s t walk

-- The region of t: bundles that cost at least what was spent at t and at every observation that t reaches.
pub record IsInRegion (input : TableInput) (t : ℕ) (bundle : FractionBundle) : Type 0 where
  pub fraction : 0 < bundle.den
  pub dear : (s : ℕ) → EqualsOrReaches input t s
      → bundle.den * input.cost s s ≤ spending input.goods (input.price s) bundle.num

-- num/den is the lower bound: the least that a bundle of the region of t costs at the prices.
pub record IsLowerWelfare (input : TableInput) (prices : ℕ → ℕ) (t num den : ℕ) : Type 0 where
  pub fraction : 0 < den
  pub none_less : (bundle : FractionBundle) → IsInRegion input t bundle
      → num * bundle.den ≤ spending input.goods prices bundle.num * den
  pub reached : (bundle : FractionBundle) × IsInRegion input t bundle
      × (spending input.goods prices bundle.num * den ≡ num * bundle.den)

-- cost is the upper bound, and s is where it is found: the least that a bundle costs of an observation that equals or
-- reaches t.
pub record IsUpperWelfare (input : TableInput) (prices : ℕ → ℕ) (t s cost : ℕ) : Type 0 where
  pub observed : s < input.n
  pub leads : EqualsOrReaches input s t
  pub costs : spending input.goods prices (input.quantity s) ≡ cost
  pub least : (r : ℕ) → EqualsOrReaches input r t → cost ≤ spending input.goods prices (input.quantity r)

-- The list has just t and the observations that it reaches, in increasing order.
abbrev pub ListsReached : TableInput → ℕ → List ℕ → Type 0
ListsReached input t reached = Enumerates input.n (EqualsOrReaches input t) reached

-- ---- as good as an observation, in an Afriat model

-- The utility of a bundle of fractions by the numbers of the model, times its denominator.
abbrev pub IsUtilityOf : TableInput → (ℕ → ℤ) → (ℕ → ℕ) → FractionBundle → ℤ → Type 0
IsUtilityOf input utility multiplier bundle = IsUtility input.n input.cost utility multiplier bundle.den
    (λ s. spending input.goods (input.price s) bundle.num)

-- By the numbers of the model the bundle is as good as observation t or better: it has at least the utility of t.
pub record IsAsGoodAs (input : TableInput) (utility : ℕ → ℤ) (multiplier : ℕ → ℕ) (bundle : FractionBundle)
    (t : ℕ) : Type 0 where
  pub fraction : 0 < bundle.den
  pub value : ℤ
  pub value_is : IsUtilityOf input utility multiplier bundle value
  pub at_least : (pos bundle.den *ℤ utility t) ≤ℤ value

-- By the numbers of the model the bundle has less utility than observation t.
pub record IsWorseThan (input : TableInput) (utility : ℕ → ℤ) (multiplier : ℕ → ℕ) (bundle : FractionBundle)
    (t : ℕ) : Type 0 where
  pub value : ℤ
  pub value_is : IsUtilityOf input utility multiplier bundle value
  pub less : value <ℤ (pos bundle.den *ℤ utility t)
