use Rattle.std.proofs.Common.{◌-◌, ◌++◌, ◌∷◌, []}
use Rattle.rp_patch.specs.PartialTypes.{taken_in}
use Rattle.rp_types.specs.InnerListed.{AreListedBefore}
use Rattle.rp_types.proofs.search.+extend.Given as goal

abbrev pub decreases-extend : goal.decreases-extend
decreases-extend l = l.patches.now.budgets - l.partial.now.taken

abbrev pub invariant-loop-i : goal.invariant-loop-i
invariant-loop-i l = AreListedBefore l.patches (taken_in l.partial ++ l.i ∷ []) l.types.items
