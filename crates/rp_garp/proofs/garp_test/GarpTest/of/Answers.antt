use Rattle.rp_people.proofs.TablesOfCosts.{garp_of_each}
use Rattle.rp_garp.proofs.garp_test.GarpTest.of.Goals as goal

pub returns-clause-is_test : goal.returns-clause-is_test
returns-clause-is_test c = record {
  valid = c.n.ensures.valid;
  of_table = c.in_ok-costs.ensures;
  is_test = record { closes = c.in_ok-closure.ensures; proves = c.in_ok-garp.ensures.proves };
}

pub returns-clause-says : goal.returns-clause-says
returns-clause-says c =
    garp_of_each c.in_ok-costs.costs c.in_ok-garp.garp c.in_ok-garp.ensures.proves c.args.table.now c.n.ensures.valid c.in_ok-costs.ensures
