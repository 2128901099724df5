-- Numbers that are filled in for every class are what is given, and prove it.
use Rattle.std.proofs.Common.{◌≡◌, ℕ, List, sym, subst}
use Rattle.std.specs.Prelude.{ℤ}
use Rattle.rp_table.specs.OwnLevels.{level_scale, own_by_level}
use Rattle.rp_evidence.specs.Afriat.{in_scale}
use Rattle.rp_evidence.specs.AfriatEvidence.{ProvesOwnAfriat}
use Rattle.rp_evidence.specs.Count.{AreCounts}
use Rattle.rp_evidence.specs.Garp.{HasNoViolation}
use Rattle.rp_evidence.specs.Preference.{StrictByLevels, WeakByLevels}
use Rattle.rp_evidence.specs.declared.afriat.AfriatPart.TheVariants.{Model}
use Rattle.rp_evidence.proofs.OwnAfriat.{own_standard_model, weak_by_own}
use Rattle.rp_afriat.specs.InnerFilling.{AreFilledAbove, AreForEach, FitAbove}
use Rattle.rp_afriat.specs.AfriatVerdict.{IsOwnAfriatVerdict}
use Rattle.rp_afriat.proofs.Fillings.{all_fit, standard_numbers}

module _ (n : ℕ) (levels : List ℕ) (c : ℕ → ℕ → ℕ) (counts : List ℕ) (u : List ℤ) (lambda : List ℕ) (counted : AreCounts n (WeakByLevels levels c) counts) (each : AreForEach n counts u lambda) (filled : AreFilledAbove n (in_scale (level_scale levels) c) (own_by_level levels c) counts u lambda 0) (fit : FitAbove n counts u lambda 0) (holds : HasNoViolation n (WeakByLevels levels c) (StrictByLevels levels c)) where
  pub proves_numbers : (u' : List ℤ) (lambda' : List ℕ) → u' ≡ u → lambda' ≡ lambda → ProvesOwnAfriat n levels c (Model (record { u = u'; lambda = lambda' }))
  proves_numbers u' lambda' e f =
      subst (λ (v : List ℤ). ProvesOwnAfriat n levels c (Model (record { u = v; lambda = lambda' }))) (sym e)
      (subst (λ (m : List ℕ). ProvesOwnAfriat n levels c (Model (record { u = u; lambda = m }))) (sym f) (
        record { utilities = each.utilities_each; multipliers = each.multipliers_each },
        own_standard_model n levels c _ _ _ (standard_numbers n (WeakByLevels levels c) (in_scale (level_scale levels) c) (own_by_level levels c) (weak_by_own n levels c) counts counted u lambda filled) holds,
      ))

  pub given_numbers : (u' : List ℤ) (lambda' : List ℕ) → u' ≡ u → lambda' ≡ lambda → IsOwnAfriatVerdict n levels c (Model (record { u = u'; lambda = lambda' }))
  given_numbers u' lambda' e f =
      subst (λ (v : List ℤ). IsOwnAfriatVerdict n levels c (Model (record { u = v; lambda = lambda' }))) (sym e)
      (subst (λ (m : List ℕ). IsOwnAfriatVerdict n levels c (Model (record { u = u; lambda = m }))) (sym f) (
        holds,
        record { utilities = each.utilities_each; multipliers = each.multipliers_each },
        all_fit n (WeakByLevels levels c) (in_scale (level_scale levels) c) (own_by_level levels c) (weak_by_own n levels c) counts counted u lambda fit,
        (_, standard_numbers n (WeakByLevels levels c) (in_scale (level_scale levels) c) (own_by_level levels c) (weak_by_own n levels c) counts counted u lambda filled),
      ))
