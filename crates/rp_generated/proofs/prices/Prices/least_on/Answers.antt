use Rattle.std.proofs.Common.{◌≡◌, ◌<◌, arith, below_more, length, rules, slice_index}
use Rattle.rp_generated.specs.InnerLight.{IsIn}
use Rattle.rp_generated.proofs.LightTypes.{least_is, least_none}
use Rattle.rp_generated.proofs.prices.Prices.least_on.Goals as goal

pub returns-then-has-clause-least : goal.returns-then-has-clause-least
returns-then-has-clause-least c = λ p listed inside.
    let list = c.on-list.result.now in
    let within : c.loop-k.k < length list = search rules in
    least_is p c.args.self.now.prices.items c.args.budget c.loop-k.k c.of.result list c.args.set.now.words (c.on-list.ensures p listed inside) within c.loop-k.invariant c.of.ensures.exact

pub loop-k-preserved : goal.loop-k-preserved
loop-k-preserved c = λ m l.
    below_more (λ m. ¬ IsIn c.args.set.now.words (slice_index c.on-list.result.now m)) c.loop-k.k c.loop-k.invariant (c.has.ensures c.if-has.false) m l

pub returns-clause-least : goal.returns-clause-least
returns-clause-least c = λ p listed inside.
    let list = c.on-list.result.now in
    let all : c.loop-k.k ≡ length list = search rules in
    least_none p c.args.self.now.prices.items c.args.budget list c.args.set.now.words (c.on-list.ensures p listed inside) (λ m l. c.loop-k.invariant m (omega (arith, l, all)))
