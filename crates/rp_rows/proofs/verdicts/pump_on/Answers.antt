use Rattle.std.proofs.Common.{◌∙◌, refl}
use Rattle.rp_fit.specs.MoneyPump.{IsPumpIndex}
use Rattle.rp_table.specs.Cost.{cost_at, cost_of}
use Rattle.rp_table.specs.Tables.{records_of}
use Rattle.rp_pump.proofs.SamePumps.{index_same}
use Rattle.rp_rows.proofs.VerdictLemmas.{same_costs}
use Rattle.rp_rows.proofs.verdicts.pump_on.Goals as goal

pub pump-requires : goal.pump-requires
pump-requires c = record { no_levels = c.requires.of_table.levels ∙ c.requires.no_levels }

pub new-requires : goal.new-requires
new-requires c = c.in_ok-evidence.ensures.index.positive

pub returns : goal.returns
returns c =
    let is = c.requires.of_table in
    let costs = c.args.costs.now in
    let table = c.args.table.now in
    let part = c.in_ok-evidence.evidence in
    let index : IsPumpIndex (records_of table) (cost_of table) part.num part.den = rw (← is.size) (index_same costs.n (cost_at costs) (cost_of table) (same_costs costs table is) part.num part.den c.in_ok-evidence.ensures.index) in
    rw c.new.ensures (refl, index, c.in_ok-evidence.ensures.lowest_terms)
