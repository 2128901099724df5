use Rattle.rp_people.proofs.TablesOfCosts.{pair_of_each}
use Rattle.rp_garp.proofs.contradiction.pairs.Goals as goal

pub returns-in-Some-clause-says : goal.returns-in-Some-clause-says
returns-in-Some-clause-says c =
    let found = c.in-Some.ensures in
    pair_of_each c.args.costs.now c.loop-s.s c.in-Some.t (rw c.n-s-end.ensures.count at c.loop-s-test.true) found.0 found.1.0 found.1.1
