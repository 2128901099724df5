use Rattle.std.proofs.Common.{subst, List, ℕ, length}
use Rattle.rp_generated.specs.InnerLight.{AreOrdered}
use Rattle.rp_generated.proofs.LightTypes.{list_many, next_listed}
use Rattle.rp_generated.proofs.prices.Prices.make.Goals as goal

pub loop-j-preserved : goal.loop-j-preserved
loop-j-preserved c =
    let p = c.args.patches.now in
    let lists = c.loop-j.on_budget.items in
    let list = c.in_ok-patches_on.field-0 in
    let so_far = c.loop-j.invariant in
    let weights = c.args.prices.items in
    let ordered = subst (λ (xs : List ℕ). AreOrdered p xs c.loop-j.j (length p.patches) list.items) c.as_slice.ensures.value c.in_ok-patches_on.ensures in
    rw c.in_ok-push.ensures.items (record {
      listed = next_listed p weights c.loop-j.j lists list so_far.many so_far.listed ordered;
      many = list_many lists list c.loop-j.j so_far.many;
    })
