use Rattle.std.proofs.Common.{◌≤◌, ℕ, List, arith, refl, subst, sym}
use Rattle.rp_evidence.specs.Input.{input_of_table}
use Rattle.rp_table.specs.NewPrices.{AreNewPrices}
use Rattle.rp_table.specs.Tables.{goods_of, records_of}
use Rattle.rp_limits.specs.declared.table.TheConstants.{RECORDS}
use Rattle.rp_filled.proofs.CertificateLemmas.{item_same}
use Rattle.rp_filled.proofs.FoundLemmas.{demand_item, demand_needs, homothetic_item, item_stays, welfare_item, welfare_needs}
use Rattle.rp_filled.proofs.certificate.found_item.Goals as goal

pub found_demand-requires : goal.found_demand-requires
found_demand-requires c =
    let table = c.args.input.now.table.now in
    let few : records_of table ≤ RECORDS = omega (arith, c.n.ensures.count, c.n.ensures.few) in
    let needs = demand_needs (input_of_table table) few c.args.stated c.requires.passes _ _ _ c.in-Demand.is in
    record {
      prices = subst (λ (list : List ℕ). AreNewPrices (goods_of table) list) (sym c.as_slice.ensures) needs.0;
      spent = needs.1;
      lists = needs.2;
    }

pub found_welfare-requires-clause-prices : goal.found_welfare-requires-clause-prices
found_welfare-requires-clause-prices c =
    let table = c.args.input.now.table.now in
    let few : records_of table ≤ RECORDS = omega (arith, c.n.ensures.count, c.n.ensures.few) in
    let needs = welfare_needs (input_of_table table) few c.args.stated c.requires.passes _ _ _ c.in-Welfare.is in
    subst (λ (list : List ℕ). AreNewPrices (goods_of table) list) (sym c.as_slice-in-Welfare.ensures) needs.0

pub found_welfare-requires-clause-observed : goal.found_welfare-requires-clause-observed
found_welfare-requires-clause-observed c =
    let table = c.args.input.now.table.now in
    let few : records_of table ≤ RECORDS = omega (arith, c.n.ensures.count, c.n.ensures.few) in
    (welfare_needs (input_of_table table) few c.args.stated c.requires.passes _ _ _ c.in-Welfare.is).1

pub returns-in_ok-found-in-Homothetic : goal.returns-in_ok-found-in-Homothetic
returns-in_ok-found-in-Homothetic c = homothetic_item (input_of_table c.args.input.now.table.now) c.args.stated _ _ c.in-Homothetic.is c.in_ok-found-in-Homothetic.ensures

pub returns-in_ok-part-in-Demand : goal.returns-in_ok-part-in-Demand
returns-in_ok-part-in-Demand c = demand_item (input_of_table c.args.input.now.table.now) c.args.stated _ _ _ _ _ c.in-Demand.is c.as_slice.ensures c.in_ok-part-in-Demand.ensures

pub returns-in_ok-part-in-Welfare : goal.returns-in_ok-part-in-Welfare
returns-in_ok-part-in-Welfare c =
    welfare_item (input_of_table c.args.input.now.table.now) c.args.stated _ _ _ _ _ c.in-Welfare.is c.as_slice-in-Welfare.ensures c.in_ok-part-in-Welfare.ensures

pub returns-in_default : goal.returns-in_default
returns-in_default c = item_stays (input_of_table c.args.input.now.table.now) c.args.stated _ refl (item_same c.args.stated)
