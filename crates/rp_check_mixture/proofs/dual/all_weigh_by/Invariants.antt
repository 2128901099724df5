use Rattle.std.proofs.Common.{◌+◌, ◌-◌, ◌^◌, length}
use Rattle.rp_check_mixture.specs.InnerSearch.{IsSearching, front_of, place_in}
use Rattle.rp_check_mixture.proofs.dual.all_weigh_by.Given as goal

abbrev pub invariant-types : goal.invariant-types
invariant-types l = IsSearching l.patches l.weights l.least l.limit l.partials l.depth l.i l.counted

abbrev pub decreases-types : goal.decreases-types
decreases-types l =
    (length l.patches.patches + 2) ^ l.patches.budgets - place_in l.patches (front_of l.partials l.depth l.i)
