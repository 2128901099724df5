use Rattle.rp_evidence.specs.Input.{input_of_table}
use Rattle.rp_filled.proofs.FoundLemmas.{no_welfare, welfare_from}
use Rattle.rp_filled.proofs.welfare.found_welfare.Goals as goal

pub returns-in_ok-lower-in-Bounds : goal.returns-in_ok-lower-in-Bounds
returns-in_ok-lower-in-Bounds c =
    welfare_from (input_of_table c.args.input.now.table.now) c.args.prices.now c.args.t c.args.stated _ _ _ c.in_ok-lower-in-Bounds.lower c.in-Bounds.is c.in_ok-lower-in-Bounds.ensures

pub returns-in-NoModel : goal.returns-in-NoModel
returns-in-NoModel c = no_welfare (input_of_table c.args.input.now.table.now) c.args.prices.now c.args.t c.args.stated _ c.in-NoModel.is
