use Rattle.std.proofs.Common.{slice_index, take}
use Rattle.std.proofs.lemmas.Result.{IfOk-weaker}
use Rattle.rp_evidence.specs.Input.{input_of_table}
use Rattle.rp_cost.proofs.Enough.{some_prices}
use Rattle.rp_cost.proofs.OuterLaws.{least_proves}
use Rattle.rp_cost.proofs.lower.lower_bound.Goals as goal

pub bound_over-requires-clause-prices : goal.bound_over-requires-clause-prices
bound_over-requires-clause-prices c =
    let question = c.args.question.now in
    some_prices question.tech.now.table c.count.ensures.valid.inputs (slice_index question.tech.now.y) question.y (slice_index question.prices.now)
    (take c.write_not_above-count.result c.write_not_above-count.new.list) c.write_not_above-count.ensures.listed

pub returns-clause-proves : goal.returns-clause-proves
returns-clause-proves c =
    let question = c.args.question.now in
    IfOk-weaker c.bound_over.result _ _
    (λ bound least. least_proves (input_of_table question.tech.now.table) (slice_index question.tech.now.y) question.y (slice_index question.prices.now)
    (take c.write_not_above-count.result c.write_not_above-count.new.list) c.write_not_above-count.ensures.listed bound least)
    c.bound_over.ensures.least
