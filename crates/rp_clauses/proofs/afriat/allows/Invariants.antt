use Rattle.std.proofs.Common.{ℕ, ◌<◌}
use Rattle.std.specs.Prelude.{◌≤ℤ◌}
use Rattle.rp_clauses.specs.AfriatFailure.{own_allowed}
use Rattle.rp_evidence.specs.AfriatEvidence.{multiplier_in, utility_in}
use Rattle.rp_evidence.specs.declared.afriat.Numbers.{Numbers}
use Rattle.rp_table.specs.Cost.{cost_of}
use Rattle.rp_clauses.proofs.afriat.allows.Given as goal

abbrev pub invariant-loop-t : goal.invariant-loop-t
invariant-loop-t l =
    let numbers : Numbers = record { u = l.utility; lambda = l.multiplier } in
    (t : ℕ) → t < l.t → utility_in numbers t ≤ℤ own_allowed l.input.table.now.levels (cost_of l.input.table.now) (utility_in numbers) (multiplier_in numbers) l.s t
