-- What is given for some costs is given for all that are the same between the observations.
use Rattle.std.proofs.Common.{ℕ, List}
use Rattle.rp_evidence.specs.Preference.{AgreeBelow, IsStrictAt, IsWeakAt}
use Rattle.rp_evidence.specs.declared.efficiency.Efficiency.{Efficiency}
use Rattle.rp_evidence.proofs.SameCosts.{counts_same, reach_same, shortest_same, strict_same, weak_same}
use Rattle.rp_pref.proofs.SameVerdicts.{verdict_on_same}
use Rattle.rp_effic.specs.EfficiencyVerdict.{IsAbove, IsEfficiencyVerdict, IsFirstReturn}

module _ (n : ℕ) (c d : ℕ → ℕ → ℕ) (num den : ℕ) (same : AgreeBelow n c d) where
  return_there : (s : ℕ) (walk : List ℕ) → IsFirstReturn n (IsWeakAt c num den) s walk → IsFirstReturn n (IsWeakAt d num den) s walk
  return_there s walk h = record {
    observation = h.observation;
    none_earlier = λ j l r. h.none_earlier j l ((reach_same n (IsWeakAt c num den) (IsWeakAt d num den) (weak_same n c d num den same) j j).1 r);
    shortest = shortest_same n (IsWeakAt c num den) (IsWeakAt d num den) (weak_same n c d num den same) s s walk h.shortest;
  }

  pub above_there : (walk : List ℕ) → IsAbove n c num den walk → IsAbove n d num den walk
  above_there walk h = record {
    none_at_one = h.none_at_one;
    return_below_one = λ apart. let r = h.return_below_one apart in (r.0, return_there r.0 walk r.1);
  }

pub verdict_same : (n : ℕ) (c d : ℕ → ℕ → ℕ) (evidence : Efficiency) → AgreeBelow n c d → IsEfficiencyVerdict n c evidence → IsEfficiencyVerdict n d evidence
verdict_same n c d e same h = record {
  level = h.level;
  below = counts_same n (IsStrictAt c e.level.num e.level.den) (IsStrictAt d e.level.num e.level.den) (strict_same n c d e.level.num e.level.den same) e.below h.below;
  above = above_there n c d e.level.num e.level.den same e.above h.above;
  at = verdict_on_same n (IsWeakAt c e.level.num e.level.den) (IsStrictAt c e.level.num e.level.den) (IsWeakAt d e.level.num e.level.den) (IsStrictAt d e.level.num e.level.den)
      (weak_same n c d e.level.num e.level.den same) (strict_same n c d e.level.num e.level.den same) e.at h.at;
}
