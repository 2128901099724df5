use Rattle.std.proofs.Common.{◌↔◌, IsTrue, slice_index, subst}
use Rattle.rp_evidence.specs.InnerBudget.{input_of}
use Rattle.rp_check.proofs.WelfareClauses.{cost_told}
use Rattle.rp_evidence.specs.BoundEvidence.{BoundHolds}
use Rattle.rp_farkas.specs.LinearProgram.{LinearProgram}
use Rattle.rp_farkas.specs.Measure.{measured}
use Rattle.rp_farkas.specs.declared.measure.Measure.TheVariants.{Cost}
use Rattle.rp_check.proofs.welfare.cost_holds.Goals as goal

pub returns : goal.returns
returns c =
    cost_told (input_of c.args.new_prices.now) (slice_index c.args.new_prices.now.prices.now) c.args.list.now c.args.bound.now c.bound_holds.result
    (subst (λ (p : LinearProgram). IsTrue c.bound_holds.result ↔ BoundHolds p (measured p Cost) c.args.bound.now) c.make.ensures c.bound_holds.ensures)
