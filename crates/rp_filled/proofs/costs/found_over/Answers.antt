use Rattle.std.proofs.Common.{IfOk, slice_index, subst}
use Rattle.std.proofs.lemmas.Result.{IfOk-weaker}
use Rattle.rp_evidence.specs.BoundEvidence.{BoundHolds}
use Rattle.rp_evidence.specs.Input.{input_of_table}
use Rattle.rp_evidence.specs.LeastCost.{least_cost_program}
use Rattle.rp_farkas.specs.LinearProgram.{LinearProgram}
use Rattle.rp_farkas.specs.Measure.{measured}
use Rattle.rp_farkas.specs.declared.measure.Measure.TheVariants.{Cost}
use Rattle.rp_table.specs.Tables.{Observations}
use Rattle.rp_filled.specs.InnerFound.{IsFoundBound}
use Rattle.rp_filled.proofs.FoundLemmas.{least_cost_found}
use Rattle.rp_filled.proofs.costs.found_over.Goals as goal

pub returns : goal.returns
returns c =
    IfOk-weaker c.found_bound.result _ _ (λ found is. least_cost_found (input_of_table c.args.tech.now.table) (slice_index c.args.prices.now) c.args.listed.now c.args.stated found is)
    (subst (λ (table : Observations). IfOk c.found_bound.result (IsFoundBound (BoundHolds (least_cost_program (input_of_table table) (slice_index c.args.prices.now) c.args.listed.now)
    (measured (least_cost_program (input_of_table table) (slice_index c.args.prices.now) c.args.listed.now) Cost)) c.args.stated)) c.table.ensures.same
    (subst (λ (p : LinearProgram). IfOk c.found_bound.result (IsFoundBound (BoundHolds p (measured p Cost)) c.args.stated)) c.make.ensures c.found_bound.ensures))
