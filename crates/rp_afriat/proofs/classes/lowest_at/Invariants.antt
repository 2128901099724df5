use Rattle.rp_table.specs.Cost.{own_of}
use Rattle.rp_afriat.specs.InnerFilling.{IsAllowed, IsLeastOf, scaled_at}
use Rattle.rp_afriat.proofs.classes.lowest_at.Given as goal

abbrev pub invariant-loop-s : goal.invariant-loop-s
invariant-loop-s l = IsLeastOf (IsAllowed l.s (scaled_at l.costs) (own_of l.costs) l.counts l.u l.lambda l.class l.t) l.least
