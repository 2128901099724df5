-- The verdict for some costs is the verdict for all that are the same between the observations.
use Rattle.std.proofs.Common.{ℕ, ◌⊎◌, inl, inr}
use Rattle.std.specs.Prelude.{pos, ◌+ℤ◌, ◌*ℤ◌}
use Rattle.rp_walk.specs.RoundWalk.{IsCutFromRounds}
use Rattle.rp_walk.specs.Outcome.{IsBreakingCycle}
use Rattle.rp_walk.specs.Settled.{NoPairBreaks}
use Rattle.rp_walk.specs.Sums.{sums, whole_total}
use Rattle.rp_walk.proofs.SameRules.{After, Alike, breaking_cycle_same, cut_same, no_breaks_same}
use Rattle.rp_evidence.specs.Quasilinear.{step_sum}
use Rattle.rp_evidence.specs.Preference.{AgreeBelow}
use Rattle.rp_evidence.specs.declared.quasilinear.Quasi.{Quasi}
use Rattle.rp_evidence.specs.declared.quasilinear.Quasi.TheVariants.{Values, Cycle}
use Rattle.rp_evidence.proofs.SameSums.{least_sum_same, meets_test_same, negative_same, step_sum_same}
use Rattle.rp_quasi.specs.QuasilinearVerdict.{IsQuasilinearVerdict}

-- a step adds the same
abbrev after : (ℕ → ℕ → ℕ) → After
after c x t s = record { num = x.num +ℤ (step_sum c t s *ℤ pos x.den); den = x.den; positive = x.positive }

after_same : (n : ℕ) (c d : ℕ → ℕ → ℕ) → AgreeBelow n c d → Alike n (after c) (after d)
after_same n c d same x t s ht hs =
    λ i. record { num = x.num +ℤ (step_sum_same n c d same t s ht hs i *ℤ pos x.den); den = x.den; positive = x.positive }

pub verdict_same : (n : ℕ) (c d : ℕ → ℕ → ℕ) (verdict : Quasi) → AgreeBelow n c d → IsQuasilinearVerdict n c verdict → IsQuasilinearVerdict n d verdict
verdict_same n c d (Values values) same p =
    (record { one_each = p.0.one_each; least = λ s s_in. least_sum_same n c d same s _ (p.0.least s s_in); limits = p.0.limits }, meets_test_same n c d same p.1)
verdict_same n c d (Cycle walk) same p = record {
  negative = negative_same n c d same walk p.negative;
  simple = p.simple;
  start = p.start;
  comes = comes p.comes;
}
  where
    alike : Alike n (after c) (after d)
    alike = after_same n c d same

    comes : IsBreakingCycle (sums n (step_sum c)) p.start walk ⊎ (NoPairBreaks (sums n (step_sum c)) × IsCutFromRounds (sums n (step_sum c)) p.start walk) → IsBreakingCycle (sums n (step_sum d)) p.start walk ⊎ (NoPairBreaks (sums n (step_sum d)) × IsCutFromRounds (sums n (step_sum d)) p.start walk)
    comes (inl q) = inl (breaking_cycle_same n (whole_total (pos 0)) (after c) (after d) alike p.start walk q)
    comes (inr q) = inr (
      no_breaks_same n (whole_total (pos 0)) (after c) (after d) alike q.0,
      cut_same n (whole_total (pos 0)) (after c) (after d) alike p.start walk q.1,
    )
