use Rattle.rp_evidence.specs.Input.{input_of_table}
use Rattle.rp_evidence.specs.declared.certificate.Item.TheVariants.{Demand}
use Rattle.rp_evidence.specs.declared.demand.DemandPart.TheVariants.{NoModel}
use Rattle.rp_garp.proofs.TestLemmas.{closes_in_table, meets_by_ranks, violates_by_cycle}
use Rattle.rp_people.proofs.FullTables.{table_is_full}
use Rattle.rp_people.proofs.SaysOfItems.{says}
use Rattle.rp_support.proofs.demand_verdict.demand.Goals as goal

pub bounds-requires-clause-sound : goal.bounds-requires-clause-sound
bounds-requires-clause-sound c =
    meets_by_ranks c.args.table.now c.requires.no_levels c.args.tested.now c.requires.is_test _ c.in-Ranks.is

pub bounds-requires-clause-closes : goal.bounds-requires-clause-closes
bounds-requires-clause-closes c =
    closes_in_table c.args.table.now c.requires.no_levels c.args.tested.now c.requires.is_test

pub returns-in_ok-walk-in-Cycle-clause-proves : goal.returns-in_ok-walk-in-Cycle-clause-proves
returns-in_ok-walk-in-Cycle-clause-proves c =
    rw (c.from_vec.ensures, c.in_ok-walk-in-Cycle.ensures.items, c.as_slice.ensures)
    (violates_by_cycle c.args.table.now c.requires.no_levels c.args.tested.now c.requires.is_test _ c.in-Cycle.is)

pub returns-in_ok-walk-in-Cycle-clause-says : goal.returns-in_ok-walk-in-Cycle-clause-says
returns-in_ok-walk-in-Cycle-clause-says c =
    says (input_of_table c.args.table.now) (table_is_full c.args.table.now c.requires.is_test.valid) (Demand c.args.prices.now c.args.m (NoModel c.from_vec.result)) (returns-in_ok-walk-in-Cycle-clause-proves c)
