use Rattle.std.proofs.Common.{◌≡◌, ◌==◌, not}
use Rattle.std.specs.List.{list_any}
use Rattle.rp_orders.specs.OrderKinds.{first_with}
use Rattle.rp_orders.proofs.lists.missing.Given as goal

abbrev pub invariant-loop-letter : goal.invariant-loop-letter
invariant-loop-letter l = first_with l.letter-counter (λ x. not (list_any (λ y. y == x) l.list)) ≡ l.letter-counter
