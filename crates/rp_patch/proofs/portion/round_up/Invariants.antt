use Rattle.rp_patch.specs.InnerPortions.{IsRoundedUpBy}
use Rattle.rp_patch.proofs.portion.round_up.Given as goal

abbrev pub invariant-loop : goal.invariant-loop
invariant-loop l = IsRoundedUpBy l.initial.portions.items l.portions.items l.j l.counter
