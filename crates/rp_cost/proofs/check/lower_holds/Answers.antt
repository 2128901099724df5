use Rattle.std.proofs.Common.{slice_index, take}
use Rattle.rp_evidence.specs.Input.{input_of_table}
use Rattle.rp_cost.proofs.Listings.{lower_told}
use Rattle.rp_cost.proofs.check.lower_holds.Goals as goal

pub returns : goal.returns
returns c =
    let question = c.args.question.now in
    lower_told (input_of_table question.tech.now.table) (slice_index question.tech.now.y) question.y (slice_index question.prices.now) c.args.lower.now
    (take c.write_not_above-count.result c.write_not_above-count.new.list) c.write_not_above-count.ensures.listed c.holds_over.result c.holds_over.ensures
