use Rattle.std.proofs.Common.{◌<◌, arith}
use Rattle.rp_generated.proofs.LightTypes.{least_begun, least_more, none_from, least_at_end}
use Rattle.rp_generated.proofs.prices.Prices.least_from.Goals as goal

pub loop-j-init : goal.loop-j-init
loop-j-init c = record {
  small = omega arith;
  least = λ p listed l. least_begun p c.args.self.now.prices.items c.args.first c.args.set.now.words;
}

pub returns-in_default-clause-least : goal.returns-in_default-clause-least
returns-in_default-clause-least c = λ p listed l.
    let inside : c.loop-j.j < p.budgets = omega (arith, c.loop-j-test.true, listed.budgets) in
    none_from p c.args.self.now.prices.items c.args.first c.loop-j.j c.args.set.now.words c.loop-j.auto.j inside (c.in_default.ensures.least p listed inside)

pub loop-j-preserved : goal.loop-j-preserved
loop-j-preserved c =
    let so_far = c.loop-j.invariant in
    let more_small = c.in-Some.ensures.small in
    let small_so_far = so_far.small in record {
      small = omega (arith, more_small, small_so_far);
      least = λ p listed l.
          let inside : c.loop-j.j < p.budgets = omega (arith, c.loop-j-test.true, listed.budgets) in
          least_more p c.args.self.now.prices.items c.args.first c.loop-j.j c.loop-j.least c.in-Some.more c.args.set.now.words c.loop-j.auto.j inside (so_far.least p listed l) (c.in-Some.ensures.least p listed inside);
    }

pub returns-clause-least : goal.returns-clause-least
returns-clause-least c = λ p listed l.
    let within = c.loop-j.auto.j-end c.requires.first in
    least_at_end p c.args.self.now.prices.items c.args.first c.loop-j.j c.loop-j.least c.args.set.now.words (omega (arith, within, c.loop-j-test.false, listed.budgets)) (c.loop-j.invariant.least p listed l)

pub returns-clause-small : goal.returns-clause-small
returns-clause-small c =
    let within = c.loop-j.auto.j-end c.requires.first in
    let small = c.loop-j.invariant.small in
    let few = c.requires.few in
    omega (arith, within, small, few)
