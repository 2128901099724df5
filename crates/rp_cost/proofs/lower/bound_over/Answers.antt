use Rattle.std.proofs.Common.{IfOk, ◌≡◌, slice_index, sym, subst, refl}
use Rattle.std.proofs.lemmas.Result.{IfOk-weaker}
use Rattle.rp_simplex.specs.ProgramBound.{IsBoundOf, ShowsLeastCost}
use Rattle.rp_evidence.specs.Input.{input_of_table}
use Rattle.rp_farkas.specs.LinearProgram.{LinearProgram}
use Rattle.rp_farkas.specs.Measure.{measured}
use Rattle.rp_farkas.specs.Prices.{HasFeasiblePrices}
use Rattle.rp_farkas.specs.declared.measure.Measure.TheVariants.{Cost}
use Rattle.rp_cost.proofs.OuterLaws.{cost_bound}
use Rattle.rp_cost.proofs.lower.bound_over.Goals as goal

pub bound_of-requires-clause-prices : goal.bound_of-requires-clause-prices
bound_of-requires-clause-prices c = subst (λ (p : LinearProgram). HasFeasiblePrices p) (sym c.program.ensures) c.requires.prices

pub returns-clause-bound : goal.returns-clause-bound
returns-clause-bound c =
    let question = c.args.question.now in
    IfOk-weaker c.bound_of.result _ _ (λ bound is. cost_bound (input_of_table question.tech.now.table) (slice_index question.prices.now) c.args.listed.now bound is)
    (subst (λ (p : LinearProgram). IfOk c.bound_of.result (λ bound. IsBoundOf p (measured p Cost) bound)) c.program.ensures c.bound_of.ensures.bound)

pub returns-clause-least : goal.returns-clause-least
returns-clause-least c =
    IfOk-weaker c.bound_of.result _ _ (λ bound is. is refl)
    (subst (λ (p : LinearProgram). IfOk c.bound_of.result (λ bound. Cost ≡ Cost → ShowsLeastCost p bound)) c.program.ensures c.bound_of.ensures.least)
