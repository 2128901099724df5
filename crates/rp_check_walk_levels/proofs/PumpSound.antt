-- Evidence on the money pump that nothing is wrong with holds, and evidence that holds has nothing wrong with it.
use Rattle.std.proofs.Common.{◌≡◌, ◌<◌, ◌↔◌, ◌+◌, ◌*◌, ℕ, List, [], ◌∷◌, Result, Ok, Err, inl, inr, refl, sym, ap, subst, ◌∙◌, length, arith}
use Rattle.std.specs.Prelude.{IfOk}
use Rattle.rp_evidence.specs.Efficiency.{FailsGarp}
use Rattle.rp_evidence.specs.declared.failure.Failure.{Failure}
use Rattle.rp_table.specs.Cost.{CostTable, IsCostTable, IsCostsOf, cost_of}
use Rattle.rp_table.specs.Tables.{Observations, records_of}
use Rattle.rp_table.proofs.CostLimits.{cost_positive}
use Rattle.rp_clauses.specs.WalkFailure.{ClosedWalkFails}
use Rattle.rp_fit.specs.MoneyPump.{HasPumpRatio, IsPumpIndex, gain_from, spent_from}
use Rattle.rp_fit.specs.PumpEvidence.{IsWeakCycle, PumpHolds}
use Rattle.rp_fit.specs.WalkSums.{next_sum, spent_sum, steps_sum}
use Rattle.rp_fit.specs.declared.pump.PumpPart.{PumpPart}
use Rattle.rp_fit.proofs.ClosedWeakWalks.{closed_by_places, closed_ends, closed_observed, closed_weak}
use Rattle.rp_fit.proofs.PumpIndex.{gain_split, index_of, pumps_where_garp_fails, ratio_from, ratio_to}
use Rattle.rp_check_walk_levels.specs.PumpFailure.{CycleFails, PumpFails, PumpValuesFail}

-- ---- the clauses and what holds

pub holds_by_clauses : (n : ℕ) (c : ℕ → ℕ → ℕ) (part : PumpPart) → PumpFails n c part (Ok tt) → PumpHolds n c part
holds_by_clauses n c part (some, (narrow, (cycle, (values, end)))) = record {
  positive = some;
  num_fits = narrow.0;
  den_fits = narrow.1;
  cycle = record { few = cycle.0; closed = closed_by_places n c part.cycle cycle.1.0.0 cycle.1.0.1.0 cycle.1.1.0 cycle.1.0.1.1.0 };
  ratio = cycle.1.1.1.0;
  values = record { one_each = values.0; fit = λ s s_in. values.1.0 s (omega (arith, values.0, s_in)) };
  bounds = values.1.1.0;
}

closed_walk_passes : (n : ℕ) (c : ℕ → ℕ → ℕ) (walk : List ℕ) (found : Failure) → IsWeakCycle n c walk → ClosedWalkFails n walk (Err found) → ⊥
closed_walk_passes n c walk found cycle (inl none) = none.0 cycle.closed.2
closed_walk_passes n c walk found cycle (inr (some, inl past)) = past.2.0 (closed_observed n c walk cycle.closed past.0 past.1)
closed_walk_passes n c walk found cycle (inr (some, inr (observed, inl apart))) = apart.0 (closed_ends n c walk cycle.closed)
closed_walk_passes n c walk found cycle (inr (some, inr (observed, inr (ends, none)))) = none

cycle_passes : (n : ℕ) (c : ℕ → ℕ → ℕ) (part : PumpPart) (found : Failure) → PumpHolds n c part → CycleFails n c part.num part.den part.cycle (Err found) → ⊥
cycle_passes n c part found holds (inl long) = long.0 holds.cycle.few
cycle_passes n c part found holds (inr (few, inl apart)) = closed_walk_passes n c part.cycle found holds.cycle apart
cycle_passes n c part found holds (inr (few, inr (closed, inl dear))) = dear.2.0 (closed_weak n c part.cycle holds.cycle.closed dear.0 dear.1)
cycle_passes n c part found holds (inr (few, inr (closed, inr (weak, inl other)))) = other.0 holds.ratio
cycle_passes n c part found holds (inr (few, inr (closed, inr (weak, inr (ratio, none))))) = none

values_pass : (n : ℕ) (c : ℕ → ℕ → ℕ) (part : PumpPart) (found : Failure) → PumpHolds n c part → PumpValuesFail n c part.num part.den part.values (Err found) → ⊥
values_pass n c part found holds (inl other) = other.0 holds.values.one_each
values_pass n c part found holds (inr (each, inl wide)) = wide.2.0 (holds.values.fit wide.0 (omega (arith, wide.1, holds.values.one_each)))
values_pass n c part found holds (inr (each, inr (fit, inl low))) = low.2.0 (holds.bounds low.0 low.1)
values_pass n c part found holds (inr (each, inr (fit, inr (bounds, none)))) = none

nothing_fails : (n : ℕ) (c : ℕ → ℕ → ℕ) (part : PumpPart) (found : Failure) → PumpHolds n c part → PumpFails n c part (Err found) → ⊥
nothing_fails n c part found holds (inl none) = none.0 holds.positive
nothing_fails n c part found holds (inr (some, inl wide)) = wide.0 (holds.num_fits, holds.den_fits)
nothing_fails n c part found holds (inr (some, inr (narrow, inl cycle))) = cycle_passes n c part found holds cycle
nothing_fails n c part found holds (inr (some, inr (narrow, inr (cycle, inl values)))) = values_pass n c part found holds values
nothing_fails n c part found holds (inr (some, inr (narrow, inr (cycle, inr (values, none))))) = none

pub pump_exact : (n : ℕ) (c : ℕ → ℕ → ℕ) (part : PumpPart) (r : Result (Unit {0}) Failure) → PumpFails n c part r → (r ≡ Ok tt) ↔ PumpHolds n c part
pump_exact n c part (Ok done) found = (λ is. holds_by_clauses n c part found, λ holds. refl)
pump_exact n c part (Err e) found = (λ is. absurd (cc is), λ holds. absurd (nothing_fails n c part e holds found))

pub pump_proves : (n : ℕ) (c : ℕ → ℕ → ℕ) (part : PumpPart) (r : Result (Unit {0}) Failure) → PumpFails n c part r → IfOk r (λ done. IsPumpIndex n c part.num part.den)
pump_proves n c part (Err e) found = tt
pump_proves n c part (Ok done) found = index_of n c part (holds_by_clauses n c part found)

pub pump_tells_garp : (costs : CostTable) (table : Observations) → IsCostTable costs → IsCostsOf costs table → (part : PumpPart) (r : Result (Unit {0}) Failure) → PumpFails (records_of table) (cost_of table) part r
    → IfOk r (λ done. (0 < part.num) ↔ FailsGarp (records_of table) (cost_of table))
pump_tells_garp costs table valid of part (Err e) found = tt
pump_tells_garp costs table valid of part (Ok done) found =
    pumps_where_garp_fails (records_of table) (cost_of table) part.num part.den spent (index_of (records_of table) (cost_of table) part (holds_by_clauses (records_of table) (cost_of table) part found))
  where
    spent : (s : ℕ) → s < records_of table → 0 < cost_of table s s
    spent s s_in =
        let within : s < costs.n = omega (arith, of.size, s_in) in
        let h = cost_positive costs valid s s within within in
        omega (arith, h, of.each s s s_in s_in)

-- ---- the ratio, from the two sums

spent_is : (c : ℕ → ℕ → ℕ) (s : ℕ) (rest : List ℕ) → spent_from c s rest ≡ steps_sum (λ t u. c t t) s rest
spent_is c s [] = refl
spent_is c s (t ∷ rest) = ap (λ z. c s s + z) (spent_is c t rest)

pub ratio_by_sums : (c : ℕ → ℕ → ℕ) (walk : List ℕ) (num den spent next : ℕ) → 0 < length walk → spent ≡ spent_sum c walk → next ≡ next_sum c walk
    → (spent * den ≡ num * spent + next * den) ↔ HasPumpRatio c num den walk
ratio_by_sums c [] num den spent next some e f = absurd (omega (arith, some))
ratio_by_sums c (x ∷ rest) num den spent next some e f = (there, back)
  where
    is_spent : spent ≡ spent_from c x rest
    is_spent = e ∙ sym (spent_is c x rest)

    there : spent * den ≡ num * spent + next * den → HasPumpRatio c num den (x ∷ rest)
    there h =
        ratio_from (gain_from c x rest) (spent_from c x rest) (steps_sum c x rest) num den (gain_split c x rest)
        (subst (λ z. spent_from c x rest * den ≡ num * spent_from c x rest + z * den) f (subst (λ z. z * den ≡ num * z + next * den) is_spent h))

    back : HasPumpRatio c num den (x ∷ rest) → spent * den ≡ num * spent + next * den
    back h =
        let r = ratio_to (gain_from c x rest) (spent_from c x rest) (steps_sum c x rest) num den (gain_split c x rest) h in
        subst (λ z. z * den ≡ num * z + next * den) (sym is_spent) (subst (λ z. spent_from c x rest * den ≡ num * spent_from c x rest + z * den) (sym f) r)
