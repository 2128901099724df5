-- Counts that stop at their last value: one more has risen, or stands there.
use Rattle.std.proofs.Common.{ℕ, ◌≤◌, ◌⊎◌, ⊎_elim, arith, inl, inr}
use Rattle.std.proofs.lemmas.Bool.{cases_lt}
use Rattle.rp_outside.specs.Faults.{HasRisen, last_count, next_count}

-- a count that has not fallen, or stands at its end, has risen after one more
pub HasRisen-next : (before now : ℕ) → (before ≤ now) ⊎ (last_count ≤ now) → HasRisen before (next_count now)
HasRisen-next before now h =
    ⊎_elim (λ less. inl (⊎_elim (λ grown. omega (arith, less, grown)) (λ past. absurd (omega (arith, less, past))) h)) (λ past. inr (omega (arith, past))) (cases_lt now last_count)

-- so it has not fallen then either, or stands at its end
pub count-rises : (before now : ℕ) → (before ≤ now) ⊎ (last_count ≤ now) → (before ≤ next_count now) ⊎ (last_count ≤ next_count now)
count-rises before now h = ⊎_elim (λ less. inl (omega (arith, less))) (λ past. inr past) (HasRisen-next before now h)
