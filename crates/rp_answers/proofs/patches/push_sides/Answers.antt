use Rattle.std.proofs.Common.{◌++◌, ◌∙◌, add-one, ap, append_assoc}
use Rattle.rp_answers.specs.PatchesText.{side_of_patch, sides_below}
use Rattle.rp_answers.proofs.patches.push_sides.Goals as goal

pub loop-k-preserved : goal.loop-k-preserved
loop-k-preserved c =
    let old = c.args.out.now.items in
    rw add-one (
    c.in_ok-extend_from_slice.ensures.items
    ∙ ap (λ side. c.loop-k.out.items ++ side) c.side.ensures
    ∙ ap (λ all. all ++ side_of_patch c.args.patches.now c.args.i c.loop-k.k) c.loop-k.invariant
    ∙ append_assoc old (sides_below c.args.patches.now c.args.i c.loop-k.k) (side_of_patch c.args.patches.now c.args.i c.loop-k.k)
    )
