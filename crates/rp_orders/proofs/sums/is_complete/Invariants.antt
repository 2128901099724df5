use Rattle.std.proofs.Common.{◌<◌, ◌≤◌, ℕ}
use Rattle.rp_orders.specs.MenuSums.{IsSeen, size_of}
use Rattle.rp_orders.proofs.sums.is_complete.Given as goal

abbrev pub invariant-loop-menu : goal.invariant-loop-menu
invariant-loop-menu l = (m : ℕ) → m < l.menu → 2 ≤ size_of l.letters m → IsSeen l.seen m
