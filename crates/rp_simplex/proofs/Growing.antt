-- Every step of the run: the tableau after k + 1 pivots comes by one pivot from a tableau after k, which is the only one
-- (`Determined`), so its objective row is greater than that of any tableau after k.
use Rattle.std.proofs.Common.{ℕ, suc, pos, ◌*ℤ◌, ap, arith}
use Rattle.rp_farkas.specs.LinearProgram.{LinearProgram}
use Rattle.rp_farkas.specs.Limits.{IsWithinLimits}
use Rattle.rp_simplex.specs.ExactTableau.{ExactTableau, width_of}
use Rattle.rp_simplex.specs.Growth.{HasGrown, HasPositiveRows}
use Rattle.rp_simplex.specs.Run.{IsTableauAfter, pivots}
use Rattle.rp_simplex.proofs.Determined.{determined, lex_same}
use Rattle.rp_simplex.proofs.PivotSound.{objective_rises}
use Rattle.rp_simplex.proofs.Steps.{reached_sound}

pub positive : (p : LinearProgram) {k : ℕ} (t : ExactTableau) → IsWithinLimits p → IsTableauAfter p k t → HasPositiveRows p.rows (width_of p) t
positive p t limits reached =
    let sound = reached_sound p limits reached in
    record { den_positive = sound.den_positive; rows_positive = sound.rows_positive }

pub grows : (p : LinearProgram) {k : ℕ} {t u : ExactTableau} → IsWithinLimits p → IsTableauAfter p k t → IsTableauAfter p (suc k) u → HasGrown p.rows (width_of p) t u
grows p {t} {u} limits reached (pivots {t = s} {r} {c} before within entering leaving pivot) =
    let same = determined p limits before reached in
    let n : ℕ = p.rows in
    lex_same (width_of p) (λ j. s.at n j *ℤ pos u.den) (λ j. u.at n j *ℤ pos s.den) (λ j. t.at n j *ℤ pos u.den) (λ j. u.at n j *ℤ pos t.den)
    (λ j l. ap (λ z. z *ℤ pos u.den) (same.entries n j (omega arith) l))
    (λ j l. ap (λ d. u.at n j *ℤ pos d) same.den)
    (objective_rises p s r c u (reached_sound p limits before) entering leaving pivot)
