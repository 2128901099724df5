use Rattle.std.proofs.Common.{◌≡◌, ◌<◌, ◌+◌, arith, length, subst, sym}
use Rattle.rp_check_mixture.specs.InnerSearch.{IsLeastBelow}
use Rattle.rp_check_mixture.proofs.ToCome.{least_before, least_here, least_of_all, none_yet}
use Rattle.rp_check_mixture.proofs.dual.least_on.Goals as goal
use Rattle.rp_check_mixture.proofs.dual.least_on.Goals.{then-is_lighter, else-is_lighter}

pub loop-i-init : goal.loop-i-init
loop-i-init c = none_yet c.args.patches.now c.args.weights.now c.args.j

pub loop-i-preserved : goal.loop-i-preserved
loop-i-preserved c =
    let a = c.args in
    let l = c.loop-i in
    let within : l.i < length a.patches.now.patches = omega (arith, c.loop-i-test.true, c.count-i-end.ensures.count) in
    elim c.if-is_lighter.branch [
      | then-is_lighter w ↦
          let is = c.is_lighter.ensures.lighter w.if-is_lighter.true in
          subst (IsLeastBelow a.patches.now a.weights.now a.j (l.i + 1)) (sym w.least-is)
          (least_here a.patches.now a.weights.now a.j l.i l.least l.invariant within is.0 is.1)
      | else-is_lighter w ↦
          subst (IsLeastBelow a.patches.now a.weights.now a.j (l.i + 1)) (sym w.least-is)
          (least_before a.patches.now a.weights.now a.j l.i l.least l.invariant within (c.is_lighter.ensures.no_lighter w.if-is_lighter.false))
    ]

pub returns : goal.returns
returns c =
    let a = c.args in
    let l = c.loop-i in
    let end : l.i ≡ length a.patches.now.patches = omega (arith, c.loop-i-test.false, l.auto.i-end, c.count-i-end.ensures.count) in
    least_of_all a.patches.now a.weights.now a.j l.least c.budgets.ensures.valid c.requires.budget (λ k. (c.type_inv.weights k).fits)
    (subst (λ m. IsLeastBelow a.patches.now a.weights.now a.j m l.least) end l.invariant)
