use Rattle.std.proofs.Common.{◌≡◌}
use Rattle.rp_fit_search.specs.InnerAlone.{groups_below}
use Rattle.rp_fit_search.proofs.kept_alone.each_alone.Given as goal

abbrev pub invariant-loop-s : goal.invariant-loop-s
invariant-loop-s l = l.groups.items ≡ groups_below l.s
