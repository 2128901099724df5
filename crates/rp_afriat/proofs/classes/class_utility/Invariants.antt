use Rattle.rp_table.specs.Cost.{own_of}
use Rattle.rp_afriat.specs.InnerFilling.{IsAllowedInClass, IsLeastOf, scaled_at}
use Rattle.rp_afriat.proofs.classes.class_utility.Given as goal

abbrev pub invariant-loop-t : goal.invariant-loop-t
invariant-loop-t l = IsLeastOf (IsAllowedInClass l.t l.costs.n (scaled_at l.costs) (own_of l.costs) l.counts l.u l.lambda l.class) l.least
