use Rattle.rp_table.specs.Cost.{own_of}
use Rattle.rp_afriat.specs.InnerFilling.{AreMultipliersSet, scaled_at}
use Rattle.rp_afriat.proofs.multipliers.set_multipliers.Given as goal

abbrev pub invariant-loop-s : goal.invariant-loop-s
invariant-loop-s l = AreMultipliersSet l.s l.costs.n (scaled_at l.costs) (own_of l.costs) l.counts l.class l.u l.fn.lambda l.lambda
