use Rattle.std.proofs.Common.{◌∙◌, ap, length, subst, sym, List, ℕ}
use Rattle.rp_evidence.specs.Input.{input_of_table}
use Rattle.rp_evidence.specs.declared.demand.GoodBounds.{GoodBounds}
use Rattle.rp_table.specs.Tables.{records_of}
use Rattle.rp_filled.specs.InnerFound.{AreListed}
use Rattle.rp_filled.proofs.FoundLemmas.{demand_from, no_demand}
use Rattle.rp_filled.proofs.demand.found_demand.Goals as goal

pub found_goods-requires-clause-below : goal.found_goods-requires-clause-below
found_goods-requires-clause-below c =
    let lists = rw c.in-Bounds.is at c.requires.lists in
    subst (λ (xs : List ℕ). AreListed (records_of c.args.input.now.table.now) xs) (sym c.as_slice.ensures) lists.0

pub found_goods-requires-clause-one_each : goal.found_goods-requires-clause-one_each
found_goods-requires-clause-one_each c =
    let lists = rw c.in-Bounds.is at c.requires.lists in
    ap (λ (xs : List GoodBounds). length xs) c.into_vec.ensures ∙ lists.1

pub returns-in_ok-found-in-Bounds : goal.returns-in_ok-found-in-Bounds
returns-in_ok-found-in-Bounds c =
    demand_from (input_of_table c.args.input.now.table.now) c.args.prices.now c.args.m c.args.stated _ _ _ _ _ _ _ _ c.in-Bounds.is c.as_slice.ensures c.into_vec.ensures c.from_vec.ensures c.in_ok-found-in-Bounds.ensures

pub returns-in-NoModel : goal.returns-in-NoModel
returns-in-NoModel c = no_demand (input_of_table c.args.input.now.table.now) c.args.prices.now c.args.m c.args.stated _ c.in-NoModel.is
