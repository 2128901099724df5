use Rattle.std.proofs.Common.{List, ℕ, subst, refl, rules}
use Rattle.rp_generated.specs.InnerLight.{IsSettled}
use Rattle.rp_generated.proofs.LightTypes.{ended_below}
use Rattle.rp_generated.proofs.lightest.light_types.Goals as goal

pub returns-clause-ended : goal.returns-clause-ended
returns-clause-ended c =
    let p = c.args.patches.now in
    let weights = c.args.prices.now.prices.items in
    ended_below p weights c.args.below _ c.seek.new.lightest (search rules) refl c.in_ok-seek.ensures.sought
    (subst (λ (front : List ℕ). IsSettled p weights front c.seek.new.lightest) c.new-none.ensures.none c.in_ok-seek.ensures.settled)

pub seek-requires-clause-weighed : goal.seek-requires-clause-weighed
seek-requires-clause-weighed c = c.new-none.ensures.weighed c.args.prices.now.prices.items
