-- What the welfare bounds say of every utility that rationalizes the choices by Afriat numbers (after Varian 1982).
use Rattle.std.specs.Prelude.{◌≡◌, ℕ, ◌*◌, ◌≤◌, ℤ, ◌≤ℤ◌, List, slice_index}
use Rattle.rp_evidence.specs.Afriat.{IsAfriatModel}
use Rattle.rp_evidence.specs.Demand.{FractionBundle, spending}
use Rattle.rp_evidence.specs.Input.{TableInput}
use Rattle.rp_evidence.specs.Welfare.{IsAsGoodAs}
use Rattle.rp_evidence.specs.declared.demand.Bound.{Bound}
use Rattle.rp_evidence.specs.declared.demand.Bound.TheVariants.{Shown, Wide}
use Rattle.rp_evidence.specs.declared.demand.WelfarePart.{WelfarePart}
use Rattle.rp_evidence.specs.declared.demand.WelfarePart.TheVariants.{Bounds, NoModel}

-- The bundle costs at least a shown bound at the prices; a withheld one claims nothing.
abbrev pub CostsAtLeast : TableInput → (ℕ → ℕ) → FractionBundle → Bound → Type 0
CostsAtLeast input prices bundle (Shown value pair) =
    value.num * bundle.den ≤ spending input.goods prices bundle.num * value.den
CostsAtLeast input prices bundle (Wide step) = Unit {0}

-- The bundle of observation s, in whole numbers.
abbrev pub bundle_at : TableInput → ℕ → FractionBundle
bundle_at input s = record { den = 1; num = input.quantity s }

-- By the numbers of a model each bundle as good as t costs at least the lower bound; the bundle of the observation of
-- the upper bound is as good as t, that observation has at least the utility of t, and its bundle costs the upper
-- bound.
pub record BoundWelfare (input : TableInput) (utility : ℕ → ℤ) (multiplier : ℕ → ℕ) (prices : ℕ → ℕ) (t upper at : ℕ)
    (lower : Bound) : Type 0 where
  pub none_cheaper : (bundle : FractionBundle) → IsAsGoodAs input utility multiplier bundle t
      → CostsAtLeast input prices bundle lower
  pub as_good : IsAsGoodAs input utility multiplier (bundle_at input at) t
  pub at_least : utility t ≤ℤ utility at
  pub costs : spending input.goods prices (input.quantity at) ≡ upper

-- Bounds hold by the numbers of a model where they bound welfare by them; where a violation is given there is no model.
abbrev pub HoldsByNumbers : TableInput → (ℕ → ℤ) → (ℕ → ℕ) → List ℕ → ℕ → WelfarePart → Type 0
HoldsByNumbers input utility multiplier prices t (Bounds upper at lower) =
    BoundWelfare input utility multiplier (slice_index prices) t upper at lower
HoldsByNumbers input utility multiplier prices t (NoModel walk) = ⊥

-- What is given holds in every Afriat model of the table.
abbrev pub HoldsInEveryModel : TableInput → List ℕ → ℕ → WelfarePart → Type 0
HoldsInEveryModel input prices t part = (utility : ℕ → ℤ) (multiplier : ℕ → ℕ)
    → IsAfriatModel input.n input.cost utility multiplier → HoldsByNumbers input utility multiplier prices t part
