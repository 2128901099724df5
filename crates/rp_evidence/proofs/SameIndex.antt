-- Evidence for the efficiency index on some costs is evidence on all that are the same between the observations.
use Rattle.std.proofs.Common.{ℕ, List}
use Rattle.rp_evidence.specs.Efficiency.{BoundsFromAbove, IsEfficiencyIndex, ProvesEfficiency}
use Rattle.rp_evidence.specs.Garp.{ProvesOfPreference}
use Rattle.rp_evidence.specs.Preference.{AgreeBelow, IsStrictAt, IsWeakAt}
use Rattle.rp_evidence.specs.declared.garp.Garp.{Garp}
use Rattle.rp_evidence.specs.declared.garp.Garp.TheVariants.{Ranks, Cycle}
use Rattle.rp_evidence.specs.declared.efficiency.Efficiency.{Efficiency}
use Rattle.rp_evidence.proofs.SameCosts.{meets_same, order_same, respect_same, violation_same, walk_same, weak_same}

module _ (n : ℕ) (c d : ℕ → ℕ → ℕ) (same : AgreeBelow n c d) where
  index_there : (num den : ℕ) → IsEfficiencyIndex n c num den → IsEfficiencyIndex n d num den
  index_there num den h = record {
    level = h.level;
    holds_below = λ p q level less. meets_same n c d p q same (h.holds_below p q level less);
    fails_above = λ p q level more. let f = h.fails_above p q level more in (f.0, violation_same n c d p q same f.0 f.1);
  }

  bounds_there : (num den : ℕ) (walk : List ℕ) → BoundsFromAbove n c num den walk → BoundsFromAbove n d num den walk
  bounds_there num den walk h = record {
    none_at_one = h.none_at_one;
    closed_below_one = λ apart. let w = h.closed_below_one apart in (w.0, walk_same n (IsWeakAt c num den) (IsWeakAt d num den) (weak_same n c d num den same) w.0 w.0 walk w.1, w.2);
  }

  preference_there : (num den : ℕ) (verdict : Garp) → ProvesOfPreference n (IsWeakAt c num den) (IsStrictAt c num den) verdict → ProvesOfPreference n (IsWeakAt d num den) (IsStrictAt d num den) verdict
  preference_there num den (Ranks ranks) p = (respect_same n c d num den same ranks p.0, meets_same n c d num den same p.1)
  preference_there num den (Cycle walk) p = violation_same n c d num den same walk p

  proof_there : (e : Efficiency) → ProvesEfficiency n c e → ProvesEfficiency n d e
  proof_there e h = record {
    index = index_there e.level.num e.level.den h.index;
    below = order_same n c d e.level.num e.level.den same e.below h.below;
    above = bounds_there e.level.num e.level.den e.above h.above;
    at = preference_there e.level.num e.level.den e.at h.at;
  }

pub efficiency_same : (n : ℕ) (c d : ℕ → ℕ → ℕ) (evidence : Efficiency) → AgreeBelow n c d → ProvesEfficiency n c evidence → ProvesEfficiency n d evidence
efficiency_same n c d evidence same h = proof_there n c d same evidence h
