-- What an output costs at new input prices, from above and from below (Varian 1984): the inner bound by what was seen
-- to make it, and the outer bound by the inputs that no observation rules out.
use Rattle.std.specs.Prelude.{◌≡◌, ℕ, ◌*◌, ◌<◌, ◌≤◌, List}
use Rattle.rp_evidence.specs.Demand.{FractionBundle, spending}
use Rattle.rp_evidence.specs.Enumeration.{Enumerates}
use Rattle.rp_evidence.specs.Input.{TableInput}

-- The outer set of the output y0, `y t` being the output of observation t: inputs in fractions that cost at least what
-- was spent at each observation that made y0 or less.
pub record IsInOuterSet (input : TableInput) (y : ℕ → ℕ) (y0 : ℕ) (bundle : FractionBundle) : Type 0 where
  pub fraction : 0 < bundle.den
  pub dear : (t : ℕ) → t < input.n → y t ≤ y0
      → bundle.den * input.cost t t ≤ spending input.goods (input.price t) bundle.num

-- The list has just the observations that made y0 or less, in increasing order.
abbrev pub ListsNotAbove : TableInput → (ℕ → ℕ) → ℕ → List ℕ → Type 0
ListsNotAbove input y y0 listed = Enumerates input.n (λ t. y t ≤ y0) listed

-- num/den is the lower bound: the least that inputs of the outer set cost at the new prices.
pub record IsLowerCost (input : TableInput) (y : ℕ → ℕ) (y0 : ℕ) (prices : ℕ → ℕ) (num den : ℕ) : Type 0 where
  pub fraction : 0 < den
  pub none_less : (bundle : FractionBundle) → IsInOuterSet input y y0 bundle
      → num * bundle.den ≤ spending input.goods prices bundle.num * den
  pub reached : (bundle : FractionBundle) × IsInOuterSet input y y0 bundle
      × (spending input.goods prices bundle.num * den ≡ num * bundle.den)

-- cost is the upper bound, and s is where it is found: the least that the inputs cost of an observation that made y0 or
-- more.
pub record IsUpperCost (input : TableInput) (y : ℕ → ℕ) (y0 : ℕ) (prices : ℕ → ℕ) (s cost : ℕ) : Type 0 where
  pub observed : s < input.n
  pub enough : y0 ≤ y s
  pub costs : spending input.goods prices (input.quantity s) ≡ cost
  pub least : (r : ℕ) → r < input.n → y0 ≤ y r → cost ≤ spending input.goods prices (input.quantity r)

-- There is no upper bound: no observation made y0 or more.
abbrev pub NoneMakes : TableInput → (ℕ → ℕ) → ℕ → Type 0
NoneMakes input y y0 = (s : ℕ) → s < input.n → y s < y0

-- Every observation that made y0 or more lies in the outer set, so that the inner bound is nowhere below the outer one.
abbrev pub MadeIsOuter : TableInput → (ℕ → ℕ) → ℕ → Type 0
MadeIsOuter input y y0 = (s : ℕ) → s < input.n → y0 ≤ y s
    → IsInOuterSet input y y0 (record { den = 1; num = input.quantity s })

-- Every observation made more than y0.
abbrev pub AllMakeMore : TableInput → (ℕ → ℕ) → ℕ → Type 0
AllMakeMore input y y0 = (t : ℕ) → t < input.n → y0 < y t
