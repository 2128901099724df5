use Rattle.std.proofs.Common.{◌++◌, ◌∙◌, ap, codes}
use Rattle.std.specs.Int.{w128}
use Rattle.std.proofs.lemmas.Int.{to_z-of_z}
use Rattle.std.specs.Fmt.{signed_decimal}
use Rattle.rp_answers.specs.UtilityText.{at_line}
use Rattle.rp_evidence.specs.AfriatEvidence.{multiplier_in, utility_in}
use Rattle.rp_afriat.specs.Bundle.{bundle_cost}
use Rattle.rp_answers.proofs.UtilityLemmas.{of_consumer, utility_there}
use Rattle.rp_answers.proofs.utility.utility_line.Goals as goal

pub returns-in_ok-line-in-Model : goal.returns-in_ok-line-in-Model
returns-in_ok-line-in-Model c =
    let numbers = c.in-Model.numbers in
    let value = utility_there c.args.costs.now c.args.table.now c.requires.of_table (utility_in numbers) (multiplier_in numbers) (bundle_cost c.args.table.now c.args.bundle.now) c.utility_at-value.result c.utility_at-value.ensures.own in
    rw c.in-Model.is (c.utility_at-value.result, value, of_consumer c.args.table.now (utility_in numbers) (multiplier_in numbers) c.args.bundle.now c.utility_at-value.result value, c.in_ok-line-in-Model.ensures ∙ ap (λ v. at_line c.args.k (codes " value " ++ signed_decimal v)) (to_z-of_z w128 c.utility_at-value.result (record { sfits = c.utility_at-value.type_inv })))
