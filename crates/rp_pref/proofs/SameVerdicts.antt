-- What is given for some relations is given for all that are the same between the observations.
use Rattle.std.proofs.Common.{◌<◌, ◌↔◌, ℕ, Option, Some, None, arith}
use Rattle.rp_evidence.specs.First.{AreFirstRelated, IsFirstRelated}
use Rattle.rp_evidence.specs.declared.garp.Garp.{Garp}
use Rattle.rp_evidence.specs.declared.garp.Garp.TheVariants.{Ranks, Cycle}
use Rattle.rp_evidence.proofs.SameCosts.{counts_same, reach_same, shortest_same}
use Rattle.rp_pref.specs.Violation.{IsVerdictOfPreference, Violate}

-- ---- the first two that stand in a relation

module _ (n : ℕ) (here there : ℕ → ℕ → Type 0) (same : (s t : ℕ) → s < n → t < n → here s t ↔ there s t) where
  first_related_same : (s t : ℕ) → IsFirstRelated n here s t → IsFirstRelated n there s t
  first_related_same s t is = record {
    first = is.first;
    second = is.second;
    related = (same s t is.first is.second).0 is.related;
    no_earlier_first = λ i j a b k. is.no_earlier_first i j a b ((same i j (omega (arith, is.first)) b).1 k);
    no_earlier_second = λ j a k. is.no_earlier_second j a ((same s j is.first (omega (arith, is.second))).1 k);
  }

  pub first_or_none_same : (found : Option (ℕ × ℕ)) → AreFirstRelated n here found → AreFirstRelated n there found
  first_or_none_same None none = λ s t a b k. none s t a b ((same s t a b).1 k)
  first_or_none_same (Some p) is = first_related_same p.0 p.1 is

-- ---- over two pairs of relations

module _ (n : ℕ) (weak strict weak' strict' : ℕ → ℕ → Type 0) (weak_is : (s t : ℕ) → s < n → t < n → weak s t ↔ weak' s t) (strict_is : (s t : ℕ) → s < n → t < n → strict s t ↔ strict' s t) where
  violate_same : (s t : ℕ) → s < n → t < n → Violate n weak strict s t ↔ Violate n weak' strict' s t
  violate_same s t a b =
      let r = reach_same n weak weak' weak_is s t in
      let k = strict_is t s b a in
      (λ h. (r.0 h.0, k.0 h.1), λ h. (r.1 h.0, k.1 h.1))

  pub verdict_on_same : (verdict : Garp) → IsVerdictOfPreference n weak strict verdict → IsVerdictOfPreference n weak' strict' verdict
  verdict_on_same (Ranks ranks) h = counts_same n weak weak' weak_is ranks h
  verdict_on_same (Cycle cycle) h = (
    h.0,
    h.1,
    first_related_same n (Violate n weak strict) (Violate n weak' strict') violate_same h.0 h.1 h.2,
    (h.3.0, shortest_same n weak weak' weak_is h.0 h.1 h.3.0 h.3.1, h.3.2),
  )
