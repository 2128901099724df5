use Rattle.std.proofs.Common.{◌-◌, arith, length}
use Rattle.rp_patch.proofs.GroupFacts.{group_small}
use Rattle.rp_patch.proofs.totals.count_groups.Goals as goal

pub overflow_add-result : goal.overflow_add-result
overflow_add-result c =
    let groups = c.args.groups.now in
    omega (arith, group_small groups c.args.counts.now c.requires (length groups - 1) (omega (arith, c.requires.some)), c.requires.some, c.requires.few)
