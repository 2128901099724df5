use Rattle.rp_afriat.proofs.Fillings.{IsClassSetBelow}
use Rattle.rp_afriat.proofs.classes.set_utility.Given as goal

abbrev pub invariant-loop-t : goal.invariant-loop-t
invariant-loop-t l = IsClassSetBelow l.t l.counts l.class l.x l.fn.u l.u
