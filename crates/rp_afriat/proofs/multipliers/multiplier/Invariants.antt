use Rattle.std.proofs.Common.{slice_index}
use Rattle.rp_evidence.specs.StandardNumbers.{IsMultiplierBy}
use Rattle.rp_table.specs.Cost.{own_of}
use Rattle.rp_afriat.specs.InnerFilling.{scaled_at, utility_of}
use Rattle.rp_afriat.proofs.multipliers.multiplier.Given as goal

abbrev pub invariant-loop-t : goal.invariant-loop-t
invariant-loop-t l = IsMultiplierBy l.t (scaled_at l.costs) (own_of l.costs) (slice_index l.counts) (utility_of l.u) l.s l.most
