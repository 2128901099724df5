use Rattle.std.proofs.Common.{◌≡◌}
use Rattle.rp_grid.proofs.Exchange.{exchanged_to}
use Rattle.rp_grid.proofs.grid.Grid.swap.Given as goal

abbrev pub invariant-loop-c : goal.invariant-loop-c
invariant-loop-c g l = (l.self ≡ exchanged_to l.c l.initial.self l.a l.b)
