use Rattle.std.proofs.Common.{◌*◌}
use Rattle.rp_evidence.specs.Afriat.{IsUtilityBy}
use Rattle.rp_evidence.specs.AfriatEvidence.{multiplier_in, utility_in}
use Rattle.rp_table.specs.Cost.{own_of, scale_of}
use Rattle.rp_afriat.specs.Bundle.{bundle_cost}
use Rattle.rp_afriat.proofs.utility.utility_at.Given as goal

abbrev pub invariant-loop-s : goal.invariant-loop-s
invariant-loop-s l = IsUtilityBy l.s (own_of l.costs) (utility_in l.numbers) (multiplier_in l.numbers) 1 (λ i. scale_of l.costs * bundle_cost l.table l.bundle i) l.least
