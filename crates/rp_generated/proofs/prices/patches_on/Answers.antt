use Rattle.std.proofs.Common.{◌≡◌, ◌≢◌, length, rules, subst, List, ℕ}
use Rattle.rp_patch.specs.Patches.{budget_at}
use Rattle.rp_generated.specs.InnerLight.{AreOrdered, IsPlaceOf}
use Rattle.rp_generated.proofs.LightTypes.{ordered_more, ordered_none, ordered_same}
use Rattle.rp_generated.proofs.prices.patches_on.Goals as goal
use Rattle.rp_generated.proofs.prices.patches_on.Goals.{then-budget_of-j+in_ok-insert, else-budget_of-j}

pub loop-i-init : goal.loop-i-init
loop-i-init c = rw c.new-list.ensures.items (ordered_none c.args.patches.now c.args.prices.now c.args.j)

pub loop-i-preserved : goal.loop-i-preserved
loop-i-preserved c =
    let p = c.args.patches.now in
    let i = c.loop-i.i in
    let list = c.loop-i.list.items in
    elim c.if-budget_of-j.branch [
      | then-budget_of-j+in_ok-insert w ↦
          let placed = subst (λ (xs : List ℕ). IsPlaceOf c.args.prices.now xs i w.place_of-at.result) w.as_slice.ensures.value w.place_of-at.ensures in
          rw (w.list-is, w.in_ok-insert.ensures.items) (ordered_more p c.args.prices.now c.args.j i w.place_of-at.result list c.loop-i.invariant placed (search rules) (search rules))
      | else-budget_of-j w ↦
          let other : budget_at p i ≢ c.args.j = λ e. w.if-budget_of-j.false (search (e, rules)) in
          rw w.list-is (ordered_same p c.args.prices.now c.args.j i list c.loop-i.invariant other)
    ]

pub returns : goal.returns
returns c =
    let all : c.loop-i.i ≡ length c.args.patches.now.patches = search rules in
    subst (λ (n : ℕ). AreOrdered c.args.patches.now c.args.prices.now c.args.j n c.loop-i.list.items) all c.loop-i.invariant
