use Rattle.std.proofs.Common.{◌↔◌, IsTrue, slice_index, subst}
use Rattle.rp_evidence.specs.BoundEvidence.{BoundHolds}
use Rattle.rp_evidence.specs.Input.{input_of_table}
use Rattle.rp_farkas.specs.LinearProgram.{LinearProgram}
use Rattle.rp_farkas.specs.Measure.{measured}
use Rattle.rp_farkas.specs.declared.measure.Measure.TheVariants.{Cost}
use Rattle.rp_cost.proofs.OuterLaws.{cost_holds}
use Rattle.rp_cost.proofs.check.holds_over.Goals as goal

pub returns : goal.returns
returns c =
    let question = c.args.question.now in
    let same = cost_holds (input_of_table question.tech.now.table) (slice_index question.prices.now) c.args.listed.now c.args.lower.now in
    let told = subst (λ (p : LinearProgram). IsTrue c.bound_holds.result ↔ BoundHolds p (measured p Cost) c.args.lower.now) c.program.ensures c.bound_holds.ensures in
    ((λ h. same.0 (told.0 h)), (λ h. told.1 (same.1 h)))
