-- Accepted evidence proves the quasilinear level, and bounds on the homothetic one.
use Rattle.std.proofs.Common.{◌≡◌, ◌<◌, ◌≤◌, ◌^◌, ℕ, [], ◌∷◌, Result, Ok, Err, arith, slice_index}
use Rattle.std.specs.Prelude.{IfOk}
use Rattle.rp_clauses.proofs.SoundTests.{is_closed_walk}
use Rattle.rp_evidence.specs.Walk.{AnyStep}
use Rattle.rp_evidence.specs.declared.failure.Failure.{Failure}
use Rattle.rp_fit.specs.HomotheticLevel.{ProvesHomotheticLevel}
use Rattle.rp_fit.specs.QuasilinearLevel.{IsQuasilinearLevel}
use Rattle.rp_fit.specs.declared.homothetic_level.HomotheticLevelPart.{HomotheticLevelPart}
use Rattle.rp_fit.specs.declared.quasilinear_level.QuasilinearLevelPart.{QuasilinearLevelPart}
use Rattle.rp_fit.proofs.BoundingValues.{costs_part_by_values, level_by_values}
use Rattle.rp_check_walk_levels.specs.HomotheticLevelFailure.{HomotheticLevelFails}
use Rattle.rp_check_walk_levels.specs.QuasilinearLevelFailure.{QuasilinearLevelFails, value_at}

pub quasilinear_level_proves : (n : ℕ) (c : ℕ → ℕ → ℕ) (part : QuasilinearLevelPart) (r : Result (Unit {0}) Failure) → QuasilinearLevelFails n c part r → IfOk r (λ done. IsQuasilinearLevel n c part.num part.den)
quasilinear_level_proves n c part (Err e) found = tt
quasilinear_level_proves n c part (Ok done) (some, (ratio, (values, end))) = record {
  positive = some;
  reached = (part.walk, is_closed_walk n AnyStep part.walk ratio.1.0 (λ k l. tt), ratio.1.1.0);
  least = costs_part_by_values n c part.num part.den (value_at part.values) (λ s t s_in t_in. values.1.1.0 s s_in t t_in);
}

pub homothetic_level_proves : (n : ℕ) (c : ℕ → ℕ → ℕ) (part : HomotheticLevelPart) (r : Result (Unit {0}) Failure) → HomotheticLevelFails n c part r → IfOk r (λ done. ProvesHomotheticLevel n c part)
homothetic_level_proves n c part (Err e) found = tt
homothetic_level_proves n c part (Ok done) (high, (mean, (factors, end))) = record {
  at_least = level_by_values n c part.low (2 ^ 40) (λ s. slice_index part.values s) (λ s t s_in t_in. factors.1.1.0 s s_in t t_in) (λ s s_in. (factors.1.0 s (omega (arith, factors.0, s_in))).0);
  at_most = (part.walk, is_closed_walk n AnyStep part.walk mean.1.0 (λ k l. tt), mean.1.1.0);
}
