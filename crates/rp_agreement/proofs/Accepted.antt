-- What proves its verdict and is as it is given passes: the tests of a table.
use Rattle.std.proofs.Common.{◌≡◌, ◌≢◌, ◌<◌, ◌*◌, ◌⊎◌, ℕ, ℤ, List, length, Ok, ap, arith, inl, inr}
use Rattle.std.proofs.lemmas.Int.{ints}
use Rattle.std.proofs.lemmas.Bool.{cases_eq}
use Rattle.rp_afriat.specs.AfriatVerdict.{IsOwnAfriatVerdict}
use Rattle.rp_clauses.specs.AfriatFailure.{AfriatFails}
use Rattle.rp_clauses.specs.EfficiencyFailure.{AboveFails, EfficiencyFails}
use Rattle.rp_clauses.specs.GarpFailure.{GarpFails}
use Rattle.rp_clauses.specs.HomotheticFailure.{HomotheticFails}
use Rattle.rp_clauses.specs.QuasilinearFailure.{QuasilinearFails}
use Rattle.rp_effic.specs.EfficiencyVerdict.{IsEfficiencyVerdict}
use Rattle.rp_evidence.specs.AfriatEvidence.{ProvesOwnAfriat}
use Rattle.rp_evidence.specs.Efficiency.{BoundsFromAbove, ProvesEfficiency}
use Rattle.rp_evidence.specs.Garp.{ProvesOfPreference}
use Rattle.rp_evidence.specs.Homothetic.{ProvesHomothetic, next_product, spent_product}
use Rattle.rp_evidence.specs.Preference.{IsStrictAt, IsWeakAt, StrictByLevels, WeakByLevels}
use Rattle.rp_evidence.specs.Quasilinear.{ProvesQuasilinear}
use Rattle.rp_evidence.specs.Walk.{AnyStep}
use Rattle.rp_evidence.specs.declared.afriat.AfriatPart.{AfriatPart}
use Rattle.rp_evidence.specs.declared.afriat.AfriatPart.TheVariants.{Model, NoModel, Wide}
use Rattle.rp_evidence.specs.declared.efficiency.Efficiency.{Efficiency}
use Rattle.rp_evidence.specs.declared.garp.Garp.{Garp}
use Rattle.rp_evidence.specs.declared.garp.Garp.TheVariants.{Ranks, Cycle}
use Rattle.rp_evidence.specs.declared.homothetic.Homothetic.{Homothetic}
use Rattle.rp_evidence.specs.declared.homothetic.Homothetic.TheVariants.{Values as ProductValues, Cycle as FallingCycle, Withheld}
use Rattle.rp_evidence.specs.declared.quasilinear.Quasi.{Quasi}
use Rattle.rp_evidence.specs.declared.quasilinear.Quasi.TheVariants.{Values, Cycle as NegativeCycle}
use Rattle.rp_homo.specs.HomotheticVerdict.{IsHomotheticVerdict}
use Rattle.rp_num.specs.Fraction.{Fraction}
use Rattle.rp_quasi.specs.QuasilinearVerdict.{IsLimitedSum, IsQuasilinearVerdict}
use Rattle.rp_clauses.specs.QuasilinearFailure.{FitsValue}
use Rattle.rp_agreement.proofs.Closed.{closed_passes, violation_passes, weak_passes}
use Rattle.rp_agreement.proofs.Narrow.{narrow_after}

pub garp_passes : (n : ℕ) (weak strict : ℕ → ℕ → Type 0) (verdict : Garp) → ProvesOfPreference n weak strict verdict → GarpFails n weak strict verdict (Ok tt)
garp_passes n weak strict (Ranks ranks) (respect, sound) = (
  respect.one_each,
  ((λ s s_in t t_in. (respect.weak_never_rises s t s_in t_in, respect.strict_falls s t s_in t_in)), tt),
)
garp_passes n weak strict (Cycle walk) violation = violation_passes n weak strict walk violation

pub afriat_passes : (n : ℕ) (levels : List ℕ) (c : ℕ → ℕ → ℕ) (part : AfriatPart) → ProvesOwnAfriat n levels c part → IsOwnAfriatVerdict n levels c part → AfriatFails n levels c part (Ok tt)
afriat_passes n levels c (Model numbers) (one_each, model) (meets, _, fit, standard) = (
  one_each,
  (
    (λ s s_in. (model.at_least_one s s_in, (fit s s_in).1, (fit s s_in).0)),
    ((λ s s_in t t_in. model.none_above s t s_in t_in), tt),
  ),
)
afriat_passes n levels c (NoModel walk) violation given = violation_passes n (WeakByLevels levels c) (StrictByLevels levels c) walk violation
afriat_passes n levels c (Wide at) proves given = tt

module _ (n : ℕ) (c : ℕ → ℕ → ℕ) where
  above_passes : (num den : ℕ) (walk : List ℕ) → BoundsFromAbove n c num den walk → (num ≡ den) ⊎ (num ≢ den) → AboveFails n c num den walk (Ok tt)
  above_passes num den walk bounds (inl one) = inl (one, ap length (bounds.none_at_one one))
  above_passes num den walk bounds (inr other) =
      let closed = bounds.closed_below_one other in
      inr (other, (closed_passes n (IsWeakAt c num den) walk closed, (weak_passes n (IsWeakAt c num den) walk closed, tt)))

  pub efficiency_passes : (evidence : Efficiency) → ProvesEfficiency n c evidence → IsEfficiencyVerdict n c evidence → EfficiencyFails n c evidence (Ok tt)
  efficiency_passes evidence proves given =
      let num = evidence.level.num in
      let den = evidence.level.den in (
        (proves.index.level, given.level.small),
        (
          (
            (proves.below.one_each, ((λ s s_in t t_in. proves.below.step_falls s t s_in t_in), tt)),
            (
              above_passes num den evidence.above proves.above (cases_eq num den),
              (garp_passes n (IsWeakAt c num den) (IsStrictAt c num den) evidence.at proves.at, tt),
            ),
          ),
          tt,
        ),
      )

  no_zero : (start : Fraction) (p q : ℕ) → (start.num * p) * start.den < start.num * (start.den * q) → start.num ≢ 0
  no_zero start p q below zero = absurd (omega (arith, rw zero at below))

  pub homothetic_passes : (verdict : Homothetic) → ProvesHomothetic n c verdict → IsHomotheticVerdict n c verdict → HomotheticFails n c verdict (Ok tt)
  homothetic_passes (ProductValues values) (bounds, holds) given = (
    bounds.one_each,
    (
      (λ s s_in. bounds.positive s (omega (arith, bounds.one_each))),
      ((λ t t_in s s_in. (given.steps_fit t s t_in s_in, (bounds.each t s t_in s_in, tt))), tt),
    ),
  )
  homothetic_passes (FallingCycle start walk) proves given = (
    no_zero start (next_product c walk) (spent_product c walk) given.ends_below,
    (
      closed_passes n AnyStep walk given.closed,
      (((λ k within wide. narrow_after c start walk k within given.products_fit wide), (given.ends_below, tt)), tt),
    ),
  )
  homothetic_passes (Withheld steps from to) proves given = tt

  fits : (x : ℤ) → IsLimitedSum x → FitsValue x
  fits x limited = (omega (arith, ints, limited.above), omega (arith, ints, limited.at_most_zero))

  pub quasilinear_passes : (verdict : Quasi) → ProvesQuasilinear n c verdict → IsQuasilinearVerdict n c verdict → QuasilinearFails n c verdict (Ok tt)
  quasilinear_passes (Values values) (bounds, holds) (least, meets) = (
    bounds.one_each,
    (
      (λ s s_in. fits _ (least.limits s (omega (arith, bounds.one_each)))),
      ((λ t t_in s s_in. bounds.each t s t_in s_in), tt),
    ),
  )
  quasilinear_passes (NegativeCycle walk) proves given = (closed_passes n AnyStep walk proves.closed, (proves.negative, tt))
