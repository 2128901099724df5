-- What accepted evidence on the least cost of steps proves (the index: Dean and Martin 2016).
use Rattle.std.specs.Prelude.{◌≡◌, ◌<◌, ◌+◌, ◌*◌, ◌==◌, ℕ, Bool, List, [], slice_index_or}
use Rattle.std.specs.List.{list_any}
use Rattle.rp_fit.specs.Steps.{CostsAtLeast, IsEnough, IsLeastStepsCost, taken_cost}
use Rattle.rp_fit.specs.WeightedWalks.{weight_of_all}
use Rattle.rp_fit.specs.declared.steps.StepsPart.{StepsPart}

-- The step from s to t is taken away: t is listed for s.
abbrev pub is_taken : List (List ℕ) → ℕ → ℕ → Bool
is_taken taken s t = list_any (λ u. u == t) (slice_index_or taken s [])

-- The steps that are taken away are enough and cost so much, and no choice of steps that is enough costs less than the
-- weights of the walks over their denominator. Where that is more than the cost less 1, no choice costs less.
pub record ProvesSteps (n : ℕ) (c : ℕ → ℕ → ℕ) (part : StepsPart) : Type 0 where
  pub enough : IsEnough n c (is_taken part.taken)
  pub costs : taken_cost n c (is_taken part.taken) ≡ part.cost
  pub at_least : CostsAtLeast n c (weight_of_all part.walks) part.den
  pub index : part.den * part.cost < weight_of_all part.walks + part.den → IsLeastStepsCost n c part.cost
