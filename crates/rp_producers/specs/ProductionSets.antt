-- What is feasible, in a technology that is not known (Varian 1984): production sets.
use Rattle.std.specs.Prelude.{◌≡◌, ℕ, ◌+◌, ◌*◌, ◌<◌, ◌≤◌, Bool, pos, ◌-ℤ◌, ◌*ℤ◌, ◌≤ℤ◌}
use Rattle.rp_evidence.specs.Demand.{FractionBundle, spending}
use Rattle.rp_evidence.specs.Input.{TableInput}
use Rattle.rp_evidence.specs.WelfareModels.{bundle_at}
use Rattle.rp_people.specs.Bundles.{IsBundle, mixture}
use Rattle.rp_producers.specs.ProfitAxiom.{profit}
use Rattle.rp_producers.specs.RequirementSets.{HasAtLeastAsMuch, sets_by}

-- A production set is a relation between outputs and bundles of inputs: they are feasible. It rationalizes what was seen:
-- it has each observation, and at the prices of an observation nothing feasible makes more profit. `y s` is the output of
-- observation s and `p s` its price.
pub record RationalizesProfit (input : TableInput) (y p : ℕ → ℕ) (feasible : ℕ → FractionBundle → Type 0) : Type 0 where
  pub has_each : (s : ℕ) → s < input.n → feasible (y s) (bundle_at input s)
  pub none_makes_more : (s output : ℕ) (x : FractionBundle) → s < input.n → IsBundle x → feasible output x
      → (pos ((p s * output) * x.den) -ℤ pos (spending input.goods (input.price s) x.num))
      ≤ℤ (profit input.cost y p s s *ℤ pos x.den)

-- Some production set rationalizes what was seen.
pub record HasProductionSet (input : TableInput) (y p : ℕ → ℕ) : Type 0 where
  pub passes : ℕ → FractionBundle → (ℕ → ℕ) → Bool
  pub rationalizes : RationalizesProfit input y p (sets_by passes)

-- A production set that is disposable, as less output of at least as much of every input is feasible too, and convex:
-- where the mixture of two outputs is a whole one, it is feasible from the mixture of their inputs.
pub record IsConvexProductionSet (goods : ℕ) (feasible : ℕ → FractionBundle → Type 0) : Type 0 where
  pub disposable : (low high : ℕ) (x z : FractionBundle) → IsBundle x → IsBundle z → low ≤ high
      → HasAtLeastAsMuch goods z x → feasible high x → feasible low z
  pub convex : (output first second a b : ℕ) (x z : FractionBundle) → 0 < a + b → IsBundle x → IsBundle z
      → (a + b) * output ≡ a * first + b * second → feasible first x → feasible second z
      → feasible output (mixture a b x z)

-- Some disposable and convex production set rationalizes what was seen.
pub record HasConvexProductionSet (input : TableInput) (y p : ℕ → ℕ) : Type 0 where
  pub passes : ℕ → FractionBundle → (ℕ → ℕ) → Bool
  pub set : IsConvexProductionSet input.goods (sets_by passes)
  pub rationalizes : RationalizesProfit input y p (sets_by passes)
