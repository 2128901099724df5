-- What is given for the tests of a table fits: its numbers are within the limits in which they are read back.
use Rattle.std.proofs.Common.{◌≡◌, ◌≢◌, ◌<◌, ◌≤◌, ◌⊎◌, ℕ, ℤ, pos, negsuc, List, arith, inl, inr, subst, sym}
use Rattle.std.proofs.lemmas.Bool.{cases_eq}
use Rattle.std.proofs.lemmas.Int.{ints}
use Rattle.std.proofs.lemmas.List.{get_or_default}
use Rattle.rp_num.specs.Spelled.{FitsSum, IsReduced}
use Rattle.rp_afriat.specs.AfriatVerdict.{IsOwnAfriatVerdict}
use Rattle.rp_effic.specs.EfficiencyVerdict.{IsEfficiencyVerdict}
use Rattle.rp_pref.specs.Violation.{IsVerdictOfPreference}
use Rattle.rp_evidence.specs.AfriatEvidence.{ProvesOwnAfriat}
use Rattle.rp_evidence.specs.Efficiency.{BoundsFromAbove, ProvesEfficiency}
use Rattle.rp_evidence.specs.Garp.{ProvesOfPreference}
use Rattle.rp_evidence.specs.Homothetic.{ProvesHomothetic}
use Rattle.rp_evidence.specs.Preference.{IsStrictAt, IsWeakAt, WeakByLevels}
use Rattle.rp_evidence.specs.Quasilinear.{ProvesQuasilinear}
use Rattle.rp_evidence.specs.StandardNumbers.{FitsUtility}
use Rattle.rp_evidence.specs.Walk.{AnyStep}
use Rattle.rp_evidence.specs.declared.afriat.AfriatPart.{AfriatPart}
use Rattle.rp_evidence.specs.declared.afriat.AfriatPart.TheVariants.{Model, NoModel, Wide}
use Rattle.rp_evidence.specs.declared.efficiency.Efficiency.{Efficiency}
use Rattle.rp_evidence.specs.declared.garp.Garp.{Garp}
use Rattle.rp_evidence.specs.declared.garp.Garp.TheVariants.{Ranks, Cycle}
use Rattle.rp_evidence.specs.declared.homothetic.Homothetic.{Homothetic}
use Rattle.rp_evidence.specs.declared.homothetic.Homothetic.TheVariants.{Values as Products, Cycle as Falls, Withheld}
use Rattle.rp_evidence.specs.declared.quasilinear.Quasi.{Quasi}
use Rattle.rp_evidence.specs.declared.quasilinear.Quasi.TheVariants.{Values as Sums, Cycle as Negative}
use Rattle.rp_homo.specs.HomotheticVerdict.{IsHomotheticVerdict}
use Rattle.rp_json_entries.specs.Reading.{FitObservations}
use Rattle.rp_json_tests.specs.Limits.{FitsAfriat, FitsEfficiency, FitsGarp, FitsHomothetic, FitsQuasilinear}
use Rattle.rp_quasi.specs.QuasilinearVerdict.{IsLimitedSum, IsQuasilinearVerdict}
use Rattle.rp_limits.specs.declared.table.TheConstants.{RECORDS}
use Rattle.rp_agreement.proofs.Lists.{counts_fit, walk_fits}

utility_fits : (x : ℤ) → FitsUtility x → FitsSum x
utility_fits (pos k) fits = omega (arith, ints, fits.1)
utility_fits (negsuc k) fits = omega (arith, ints, fits.0)

sum_fits : (x : ℤ) → IsLimitedSum x → FitsSum x
sum_fits (pos k) limited = omega (arith, ints, limited.at_most_zero)
sum_fits (negsuc k) limited = omega (arith, ints, limited.above)

module _ (n : ℕ) (few : n ≤ RECORDS) where
  pub garp_fits : (weak strict : ℕ → ℕ → Type 0) (verdict : Garp) → ProvesOfPreference n weak strict verdict → IsVerdictOfPreference n weak strict verdict → FitsGarp verdict
  garp_fits weak strict (Ranks ranks) proves given = counts_fit n few weak ranks given
  garp_fits weak strict (Cycle walk) proves given = walk_fits n few weak walk proves.0

  pub afriat_fits : (levels : List ℕ) (c : ℕ → ℕ → ℕ) (part : AfriatPart) → ProvesOwnAfriat n levels c part → IsOwnAfriatVerdict n levels c part → FitsAfriat part
  afriat_fits levels c (Model numbers) proves (meets, one_each, fit, standard) = (
    (λ k d within.
        let h = (fit k (omega (arith, within, one_each.multipliers))).1 in
        omega (arith, h, get_or_default numbers.lambda k d 0 within)),
    (λ k d within.
        let h = (fit k (omega (arith, within, one_each.utilities))).0 in
        subst FitsSum (get_or_default numbers.u k (pos 0) d within) (utility_fits _ h)),
  )
  afriat_fits levels c (NoModel walk) proves given = walk_fits n few (WeakByLevels levels c) walk proves.0
  afriat_fits levels c (Wide at) proves (meets, (count, utility, multiplier, standard, first)) = omega (arith, few, first.observed)

module _ (n : ℕ) (c : ℕ → ℕ → ℕ) (few : n ≤ RECORDS) where
  above_fits : (num den : ℕ) (walk : List ℕ) → BoundsFromAbove n c num den walk → (num ≡ den) ⊎ (num ≢ den) → FitObservations walk
  above_fits num den walk bounds (inl one) = subst FitObservations (sym (bounds.none_at_one one)) (λ k d within. absurd (omega (arith, within)))
  above_fits num den walk bounds (inr other) = walk_fits n few (IsWeakAt c num den) walk (bounds.closed_below_one other)

  pub efficiency_fits : (evidence : Efficiency) → ProvesEfficiency n c evidence → IsEfficiencyVerdict n c evidence → FitsEfficiency evidence
  efficiency_fits evidence proves given =
      let num = evidence.level.num in
      let den = evidence.level.den in
      let small = given.level.small in
      let at_most = proves.index.level.1 in (
        above_fits num den evidence.above proves.above (cases_eq num den),
        garp_fits n few (IsWeakAt c num den) (IsStrictAt c num den) evidence.at proves.at given.at,
        counts_fit n few (IsStrictAt c num den) evidence.below given.below,
        (
          (given.level.lowest, record { num_fits = omega (arith, small, at_most); den_fits = omega (arith, small) }),
          omega (arith, small, at_most),
          omega (arith, small),
        ),
      )

  pub homothetic_fits : (verdict : Homothetic) → ProvesHomothetic n c verdict → IsHomotheticVerdict n c verdict → FitsHomothetic verdict
  homothetic_fits (Products values) proves given = λ k d within.
      let inside : k < n = omega (arith, within, given.one_each) in
      subst IsReduced (get_or_default values k (record { num = 0; den = 1 }) d within) ((given.least k inside).lowest_terms, given.fit k inside)
  homothetic_fits (Falls start walk) proves given = (walk_fits n few AnyStep walk given.closed, (given.lowest_terms, given.fits))
  homothetic_fits (Withheld steps from to) proves given =
      let wide = given.first.too_wide in (
        omega (arith, few, wide.round_within),
        omega (arith, few, wide.from_within),
        omega (arith, few, wide.to_within),
      )

  pub quasilinear_fits : (verdict : Quasi) → ProvesQuasilinear n c verdict → IsQuasilinearVerdict n c verdict → FitsQuasilinear verdict
  quasilinear_fits (Sums values) proves (least, meets) = λ k d within.
      subst FitsSum (get_or_default values k (pos 0) d within) (sum_fits _ (least.limits k (omega (arith, within, least.one_each))))
  quasilinear_fits (Negative walk) proves given = walk_fits n few AnyStep walk proves.closed
