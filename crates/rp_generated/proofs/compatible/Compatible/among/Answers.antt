use Rattle.std.proofs.Common.{◌≤◌, arith, length, rules}
use Rattle.rp_generated.proofs.LightTypes.{met_or_clash, set_read}
use Rattle.rp_generated.proofs.compatible.Compatible.among.Goals as goal

pub returns-in-Some : goal.returns-in-Some
returns-in-Some c p are inside j l has =
    let own = c.in-Some.own.now in
    met_or_clash p c.args.i j own.words c.args.set.now.words c.meet.result.words
    (set_read p c.args.i c.args.self.now.sets.items c.deref.result.now own c.deref.ensures.value are.sets c.in-Some.ensures.lookup.0 c.in-Some.ensures.lookup.1)
    l has (λ too it. c.meet.ensures j too it)

pub returns-in-None : goal.returns-in-None
returns-in-None c p are inside j l has =
    let past : length c.args.self.now.sets.items ≤ c.args.i = search rules in
    absurd (omega (arith, past, inside, are.many))
