-- The clauses of weights that show that there is no mixture, in two parts: those before any kind is weighed, and the
-- others; and with a limit of steps between them.
use Rattle.std.proofs.Common.{◌≡◌, ◌<◌, ◌≤◌, ◌*◌, ℕ, List, [], ◌∷◌, All, Result, Ok, Err, inl, inr, length}
use Rattle.rp_evidence.specs.declared.failure.Failure.{Failure}
use Rattle.rp_evidence.specs.declared.failure.Reason.TheVariants.{Dual, Least, NotLess, Number, Shape, Steps, Units}
use Rattle.rp_evidence.specs.declared.random.RandomPart.{RandomPart}
use Rattle.rp_evidence.specs.declared.random.RandomPart.TheVariants.{Mixture, Violated, Wide}
use Rattle.rp_evidence.specs.declared.random.Share.{Share}
use Rattle.rp_evidence.specs.Clauses.{Finding, FirstUnless, InOrder, Unless}
use Rattle.rp_farkas.specs.Limits.{FitsEvidence}
use Rattle.rp_patch.specs.KindFailure.{HasFitNumbers, PartsFailOf, ViolationFailsOf}
use Rattle.rp_patch.specs.Kinds.{Kinds, all_units_weight, cells_weight, weight_of, weight_using}
use Rattle.rp_patch.specs.Mixtures.{types_on}
use Rattle.rp_patch.specs.Patches.{PatchList}
use Rattle.rp_patch.specs.RandomFailure.{RandomFails, RandomPartFails}
use Rattle.rp_check_mixture.specs.LightFronts.{HasMoreLightFrontsThan}
use Rattle.rp_check_mixture.specs.RandomWithin.{RandomFailsWithin, RandomPartFailsWithin, ViolationFailsWithin}

-- ---- clauses in two parts

abbrev joined : List Finding → List Finding → List Finding
joined [] rest = rest
joined (first ∷ front) rest = first ∷ joined front rest

front_fails : (front rest : List Finding) (e : Failure) → InOrder front (Err e) → InOrder (joined front rest) (Err e)
front_fails [] rest e found = absurd found
front_fails (first ∷ front) rest e (inl found) = inl found
front_fails (first ∷ front) rest e (inr (holds, found)) = inr (holds, front_fails front rest e found)

then_rest : (front rest : List Finding) (r : Result (Unit {0}) Failure) → InOrder front (Ok tt) → InOrder rest r → InOrder (joined front rest) r
then_rest [] rest r holds found = found
then_rest (first ∷ front) rest (Ok done) (here, holds) found = (here, then_rest front rest (Ok done) holds found)
then_rest (first ∷ front) rest (Err e) (here, holds) found = inr (here, then_rest front rest (Err e) holds found)

-- ---- the clauses of a violation

module _ (k : Kinds) (den : ℕ) (shares : List Share) (weights : List ℕ) where
  abbrev before_weighing : List Finding
  before_weighing =
      Unless (HasFitNumbers den shares weights) Number 0
      ∷ PartsFailOf k shares
      ∷ Unless (length weights ≡ k.cells) Shape 0
      ∷ FirstUnless k.cells (λ i. weight_using k shares i ≤ den * k.units i) Units
      ∷ []

  abbrev weighing : List Finding
  weighing =
      Unless ((kind : List ℕ) → k.IsKind kind → den ≤ cells_weight weights (k.used kind)) Dual 0
      ∷ Unless (weight_of shares ≡ all_units_weight k weights) Least 0
      ∷ Unless (weight_of shares < den * k.total) NotLess 0
      ∷ []

  pub shares_fit : InOrder before_weighing (Ok tt) → All (λ (share : Share). FitsEvidence share.weight) shares
  shares_fit (fit, (kinds, (one_each, (units, done)))) = fit.parts_fit

  pub one_each_cell : InOrder before_weighing (Ok tt) → length weights ≡ k.cells
  one_each_cell (fit, (kinds, (one_each, (units, done)))) = one_each

  pub fails_before : (e : Failure) → InOrder before_weighing (Err e) → ViolationFailsOf k den shares weights (Err e)
  fails_before e found = front_fails before_weighing weighing e found

  pub then_weighed : (r : Result (Unit {0}) Failure) → InOrder before_weighing (Ok tt) → InOrder weighing r → ViolationFailsOf k den shares weights r
  then_weighed r holds found = then_rest before_weighing weighing r holds found

-- ---- within a number of steps

module _ (p : PatchList) (den : ℕ) (shares : List Share) (weights : List ℕ) (steps : ℕ) where
  abbrev weighing_within : List Finding
  weighing_within = Unless (¬ HasMoreLightFrontsThan p weights den steps) Steps 0 ∷ weighing (types_on p) den shares weights

  pub weighed_within : (r : Result (Unit {0}) Failure) → ¬ HasMoreLightFrontsThan p weights den steps → InOrder (weighing (types_on p) den shares weights) r → InOrder weighing_within r
  weighed_within r within found =
      then_rest (Unless (¬ HasMoreLightFrontsThan p weights den steps) Steps 0 ∷ []) (weighing (types_on p) den shares weights) r (within, tt) found

  pub fails_before_within : (e : Failure) → InOrder (before_weighing (types_on p) den shares weights) (Err e) → ViolationFailsWithin p den shares weights steps (Err e)
  fails_before_within e found = front_fails (before_weighing (types_on p) den shares weights) weighing_within e found

  pub then_weighed_within : (r : Result (Unit {0}) Failure) → InOrder (before_weighing (types_on p) den shares weights) (Ok tt) → InOrder weighing_within r → ViolationFailsWithin p den shares weights steps r
  then_weighed_within r holds found = then_rest (before_weighing (types_on p) den shares weights) weighing_within r holds found

-- what fails no clause within a limit fails none without
pub part_without : (p : PatchList) (part : RandomPart) (steps : ℕ) → RandomPartFailsWithin p part steps (Ok tt) → RandomPartFails p part (Ok tt)
part_without p (Mixture den parts) steps found = found
part_without p (Violated den parts weights) steps (fit, (kinds, (one_each, (units, (within, rest))))) = (fit, (kinds, (one_each, (units, rest))))
part_without p (Wide step) steps found = found

pub without : (p : PatchList) (total : ℕ) (part : RandomPart) (steps : ℕ) → RandomFailsWithin p total part steps (Ok tt) → RandomFails p total part (Ok tt)
without p total part steps (same, (found, done)) = (same, (part_without p part steps found, done))
