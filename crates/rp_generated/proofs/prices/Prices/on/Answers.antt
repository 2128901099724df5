use Rattle.std.proofs.Common.{◌≤◌, arith, length, rules}
use Rattle.rp_generated.proofs.LightTypes.{list_read}
use Rattle.rp_generated.proofs.prices.Prices.on.Goals as goal

pub returns-in-Some : goal.returns-in-Some
returns-in-Some c p listed inside =
    rw c.as_slice.ensures.value
    (list_read p c.args.self.now.prices.items c.args.budget c.args.self.now.on_budget.items c.deref.result.now c.in-Some.list.now c.deref.ensures.value listed.lists c.in-Some.ensures.lookup.0 c.in-Some.ensures.lookup.1)

pub returns-in-None : goal.returns-in-None
returns-in-None c p listed inside =
    let past : length c.args.self.now.on_budget.items ≤ c.args.budget = search rules in
    absurd (omega (arith, past, inside, listed.many))
