use Rattle.std.proofs.Common.{◌∙◌}
use Rattle.rp_evidence.specs.Input.{input_of_table}
use Rattle.rp_agreement.proofs.ItemsFit.{table_limited}
use Rattle.rp_people.proofs.FullTables.{table_is_full}
use Rattle.rp_answers.proofs.BoundItems.{demand_record}
use Rattle.rp_answers.proofs.demand.demand_item.Goals as goal

pub returns : goal.returns
returns c =
    let q = c.requires in
    let given = c.in_ok-demand.ensures in
    demand_record (input_of_table c.args.table.now) q.no_levels (table_limited c.args.table.now q.is_test.valid) (table_is_full c.args.table.now q.is_test.valid) c.args.tested.now.garp c.args.prices.now c.from_vec.result (c.from_vec.ensures ∙ c.in_ok-prices.ensures.items) q.prices.one_each q.prices.fit c.args.m c.in_ok-demand.demand q.spent.0 q.spent.1 given.proves given.given
