-- The tableaus of a run are sound, and the run is determined.
use Rattle.std.proofs.Common.{◌≡◌, ◌≢◌, ℕ, ◌<◌, pos, ◌*ℤ◌, ◌<ℤ◌, sym, ◌∙◌, ap, arith}
use Rattle.std.proofs.lemmas.Int.{ints}
use Rattle.rp_farkas.specs.LinearProgram.{LinearProgram}
use Rattle.rp_farkas.specs.Limits.{IsWithinLimits}
use Rattle.rp_simplex.specs.ExactTableau.{ExactTableau, width_of}
use Rattle.rp_simplex.specs.Run.{IsTableauAfter, begins, pivots}
use Rattle.rp_simplex.proofs.Linear.{delta-same, delta-other, positive_times}
use Rattle.rp_simplex.proofs.Sound.{IsSound, first_sound}
use Rattle.rp_simplex.proofs.PivotSound.{pivot_sound}

pub reached_sound : (p : LinearProgram) {k : ℕ} {t : ExactTableau} → IsWithinLimits p → IsTableauAfter p k t → IsSound p t
reached_sound p limits (begins first) = first_sound p _ first limits
reached_sound p limits (pivots {t} {u} {r} {c} before within entering leaving pivot) =
    pivot_sound p t r c u (reached_sound p limits before) entering leaving pivot

-- ---- two rows are never equal in ratio: the basic column of one of them is clear in the other
pub no_tie : (p : LinearProgram) (t : ExactTableau) (i r c : ℕ) → IsSound p t → i < p.rows → r < p.rows → i ≢ r → pos 0 <ℤ t.at i c
    → ((j : ℕ) → j < width_of p → t.at i c *ℤ t.at r j ≡ t.at r c *ℤ t.at i j) → ⊥
no_tie p t i r c sound hi hr ne positive same =
    let own : t.at r (t.basis r) ≡ pos t.den = sound.unit r r (omega arith) hr ∙ ap (λ z. z *ℤ pos t.den) (delta-same r) ∙ omega (arith, ints) in
    let clear : t.at i (t.basis r) ≡ pos 0 = sound.unit i r (omega arith) hr ∙ ap (λ z. z *ℤ pos t.den) (delta-other i r ne) ∙ omega (arith, ints) in
    let tie : t.at i c *ℤ pos t.den ≡ t.at r c *ℤ pos 0 = ap (λ z. t.at i c *ℤ z) (sym own) ∙ same (t.basis r) (sound.basis_within r hr) ∙ ap (λ z. t.at r c *ℤ z) clear in
    let product : pos 0 <ℤ (t.at i c *ℤ pos t.den) = positive_times (t.at i c) (pos t.den) positive (let d = sound.den_positive in omega (arith, ints)) in
    let nothing : t.at r c *ℤ pos 0 ≡ pos 0 = omega (arith, ints) in
    omega (arith, ints)
