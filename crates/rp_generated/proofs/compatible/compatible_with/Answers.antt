use Rattle.std.proofs.Common.{◌≤◌, inl, inr, arith, length, rules}
use Rattle.rp_generated.proofs.LightTypes.{all_but_more, all_but_same}
use Rattle.rp_generated.proofs.compatible.compatible_with.Goals as goal
use Rattle.rp_generated.proofs.compatible.compatible_with.Goals.{then-is_violation, else-is_violation}

pub loop-j-init : goal.loop-j-init
loop-j-init c = λ j l. inl (c.all-set.ensures j l)

pub loop-j-preserved : goal.loop-j-preserved
loop-j-preserved c =
    let p = c.args.patches.now in
    elim c.if-is_violation.branch [
      | then-is_violation w ↦ rw w.set-is (all_but_more p c.args.i c.loop-j.j _ _ (c.is_violation.ensures w.if-is_violation.true) w.remove.ensures c.loop-j.invariant)
      | else-is_violation w ↦ rw w.set-is (all_but_same p c.args.i c.loop-j.j _ c.loop-j.invariant)
    ]

pub returns : goal.returns
returns c = λ j l.
    let few : length c.args.patches.now.patches ≤ 256 = search rules in
    elim (c.loop-j.invariant j (omega (arith, l, few))) [ inl is ↦ inl is | inr it ↦ inr it.1 ]
