use Rattle.std.proofs.Common.{◌≡◌, ◌∙◌, arith, length, rules, subst, ℕ}
use Rattle.rp_generated.specs.InnerLight.{HasAllBut}
use Rattle.rp_generated.proofs.LightTypes.{set_added, sets_many}
use Rattle.rp_generated.proofs.compatible.Compatible.make.Goals as goal

pub loop-i-preserved : goal.loop-i-preserved
loop-i-preserved c =
    let p = c.args.patches.now in
    let sets = c.loop-i.sets.items in
    let so_far = c.loop-i.invariant in
    let set = c.compatible_with.result in
    rw c.in_ok-push.ensures.items (record {
      sets = set_added p 0 sets set so_far.sets (subst (λ (k : ℕ). HasAllBut p k set.words) (omega (arith, so_far.many)) c.compatible_with.ensures);
      many = sets_many sets set c.loop-i.i so_far.many;
    })

pub returns : goal.returns
returns c =
    let all : c.loop-i.i ≡ length c.args.patches.now.patches = search rules in
    record { many = c.loop-i.invariant.many ∙ all; sets = c.loop-i.invariant.sets }
