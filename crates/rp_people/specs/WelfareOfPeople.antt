-- What it costs people at new prices to be as well off as at an observation, whose preferences rationalize a table
-- (after Varian 1982).
use Rattle.std.specs.Prelude.{◌≡◌, ℕ, Bool}
use Rattle.rp_evidence.specs.Demand.{FractionBundle, spending}
use Rattle.rp_evidence.specs.Input.{TableInput}
use Rattle.rp_evidence.specs.WelfareModels.{CostsAtLeast, bundle_at}
use Rattle.rp_evidence.specs.declared.demand.Bound.{Bound}
use Rattle.rp_people.specs.Bundles.{IsBundle}
use Rattle.rp_people.specs.Preferences.{IsAtLeastAsGood, shown_by}
use Rattle.rp_people.specs.Rationalizing.{Fits}
use Rattle.rp_people.specs.TableChoices.{choices_at}

-- By this preference each bundle that is at least as good as that of t costs at least a shown lower bound, and the bundle
-- of the upper bound's observation is at least as good as that of t.
pub record KeepsBounds (input : TableInput) (prices : ℕ → ℕ) (t at : ℕ) (lower : Bound)
    (prefers : FractionBundle → FractionBundle → Type 0) : Type 0 where
  pub none_cheaper : (x : FractionBundle) → IsBundle x → IsAtLeastAsGood prefers x (bundle_at input t)
      → CostsAtLeast input prices x lower
  pub as_good : IsAtLeastAsGood prefers (bundle_at input at) (bundle_at input t)

-- Every locally nonsatiated preference that rationalizes the table keeps the bounds, and the bundle of the upper bound's
-- observation costs the upper bound.
pub record BoundWelfareOfPeople (input : TableInput) (prices : ℕ → ℕ) (t upper at : ℕ) (lower : Bound) : Type 0 where
  pub kept : (passes : FractionBundle → FractionBundle → (ℕ → ℕ) → Bool)
      → Fits (choices_at input 1 1) (shown_by passes) → KeepsBounds input prices t at lower (shown_by passes)
  pub costs : spending input.goods prices (input.quantity at) ≡ upper
