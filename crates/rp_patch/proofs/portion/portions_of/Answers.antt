use Rattle.rp_patch.specs.Apportionment.{grouped}
use Rattle.rp_patch.proofs.GroupFacts.{group_within}
use Rattle.rp_patch.proofs.SharesMade.{count_within}
use Rattle.rp_patch.proofs.portion.portions_of.Goals as goal

pub sum_of-all-requires-clause-group : goal.sum_of-all-requires-clause-group
sum_of-all-requires-clause-group c = group_within c.args.groups.now c.args.counts.now c.requires.grouped c.loop-i.i c.loop-i-test.true

pub portion_of-requires-clause-within : goal.portion_of-requires-clause-within
portion_of-requires-clause-within c =
    rw c.sum_of-all.ensures.exact (count_within (grouped c.args.groups.now c.args.counts.now) c.loop-i.i c.loop-i-test.true)
