use Rattle.std.proofs.Common.{◌≡◌, ◌++◌, take}
use Rattle.std.specs.Prelude.{codes}
use Rattle.std.specs.List.{flat_map}
use Rattle.rp_print.proofs.list.push_others.Given as goal

abbrev pub invariant-loop-entry : goal.invariant-loop-entry
invariant-loop-entry g l =
    l.out.items ≡ l.fn.out.items ++ flat_map (λ x. codes " " ++ g.P.Print.text x) (take l.entry-index l.entries)
