-- Tries at worked costs: what the laws speak of is there.
use Rattle.std.proofs.Common.{ℕ, [], ◌∷◌, Ok, arith, inl, refl, ◌==◌, if◌then◌else◌}
use Rattle.rp_clauses.specs.GarpFailure.{GarpFails}
use Rattle.rp_evidence.specs.Garp.{IsViolationAt}
use Rattle.rp_evidence.specs.Preference.{IsStrict, IsWeak}
use Rattle.rp_evidence.specs.declared.garp.Garp.TheVariants.{Cycle}
use Rattle.rp_agreement.proofs.Accepted.{garp_passes}

-- each of two bundles costs 1 at the prices at which the other was bought for 2
abbrev crossed : ℕ → ℕ → ℕ
crossed s t = if s == t then 2 else 1

crossed_cycle : IsViolationAt 2 crossed 1 1 (0 ∷ 1 ∷ 0 ∷ [])
crossed_cycle = (
  (0, (refl, (omega arith, omega arith, (omega arith, omega arith, (omega arith, refl)))), omega arith),
  inl (omega arith),
)

crossed_passes : GarpFails 2 (IsWeak crossed) (IsStrict crossed) (Cycle (0 ∷ 1 ∷ 0 ∷ [])) (Ok tt)
crossed_passes = garp_passes 2 (IsWeak crossed) (IsStrict crossed) (Cycle (0 ∷ 1 ∷ 0 ∷ [])) crossed_cycle

-- where both cost the same everywhere, the walk is weak and closed, but no step is strict
level_fails : GarpFails 2 (IsWeak (λ s t. 1)) (IsStrict (λ s t. 1)) (Cycle (0 ∷ 1 ∷ 0 ∷ [])) (Ok tt) → ⊥
level_fails (closed, (weak, ((k, within, strict), done))) = absurd (omega (arith, strict))
