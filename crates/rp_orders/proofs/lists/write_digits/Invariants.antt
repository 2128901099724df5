use Rattle.std.proofs.Common.{◌≡◌, ◌-◌, ◌++◌, drop, length}
use Rattle.rp_orders.specs.InnerLists.{digits}
use Rattle.rp_orders.proofs.lists.write_digits.Given as goal

abbrev pub invariant-loop-j : goal.invariant-loop-j
invariant-loop-j l = record {
  same : length l.places ≡ length l.initial.places;
  written : digits l.base (length l.initial.places - l.j) l.rest ++ drop (length l.initial.places - l.j) l.places
      ≡ digits l.base (length l.initial.places) l.n;
}
