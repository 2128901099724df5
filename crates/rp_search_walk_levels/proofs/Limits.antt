-- Evidence that the checker takes is within the limits of the format.
use Rattle.std.proofs.Common.{◌<◌, ◌≤◌, ◌^◌, ℕ, ℤ, pos, negsuc, List, length, Ok, arith, subst, slice_index}
use Rattle.std.proofs.lemmas.Int.{ints}
use Rattle.std.proofs.lemmas.List.{get_or_default}
use Rattle.rp_check_walk_levels.specs.HomotheticLevelFailure.{HomotheticLevelFails}
use Rattle.rp_check_walk_levels.specs.QuasilinearLevelFailure.{FitsValue, QuasilinearLevelFails}
use Rattle.rp_fit.specs.declared.homothetic_level.HomotheticLevelPart.{HomotheticLevelPart}
use Rattle.rp_fit.specs.declared.quasilinear_level.QuasilinearLevelPart.{QuasilinearLevelPart}
use Rattle.rp_json_entries.specs.Reading.{FitObservations}
use Rattle.rp_json_indices.specs.Limits.{FitsHomotheticLevel, FitsQuasilinearLevel}
use Rattle.rp_limits.specs.declared.table.TheConstants.{RECORDS}
use Rattle.rp_num.specs.Spelled.{FitsSum}

value_fits : (x : ℤ) → FitsValue x → FitsSum x
value_fits (pos k) fits = omega (arith, ints, fits.1)
value_fits (negsuc k) fits = omega (arith, ints, fits.0)

observations_fit : (n : ℕ) (walk : List ℕ) → n ≤ RECORDS → ((k : ℕ) → k < length walk → slice_index walk k < n) → FitObservations walk
observations_fit n walk few each k d within = omega (arith, few, each k within, get_or_default walk k d 0 within)

pub quasilinear_level_fits : (n : ℕ) (c : ℕ → ℕ → ℕ) (part : QuasilinearLevelPart) → n ≤ RECORDS → part.num < 2 ^ 64 → part.den < 2 ^ 64 → QuasilinearLevelFails n c part (Ok tt) → FitsQuasilinearLevel part
quasilinear_level_fits n c part few num den (some, (ratio, (values, end))) = (
  observations_fit n part.walk few ratio.1.0.1.0,
  den,
  num,
  (λ k d within. subst FitsSum (get_or_default part.values k (pos 0) d within) (value_fits _ (values.1.0 k within))),
)

pub homothetic_level_fits : (n : ℕ) (c : ℕ → ℕ → ℕ) (part : HomotheticLevelPart) → n ≤ RECORDS → part.low < 2 ^ 64 → HomotheticLevelFails n c part (Ok tt) → FitsHomotheticLevel part
homothetic_level_fits n c part few low (high, (mean, (factors, end))) = (
  observations_fit n part.walk few mean.1.0.1.0,
  omega (arith, high),
  low,
  (λ k d within. omega (arith, (factors.1.0 k within).1, get_or_default part.values k d 0 within)),
)
