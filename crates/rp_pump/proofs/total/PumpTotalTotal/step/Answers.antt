use Rattle.std.proofs.Common.{rules, refl}
use Rattle.std.specs.Prelude.{FitsSigned}
use mir.Syntax.{w128}
use Rattle.rp_walk.proofs.SumSteps.{found_fits, sum_fits}
use Rattle.rp_pump.proofs.total.PumpTotalTotal.step.Goals as goal

pub returns-in-None-clause-wide : goal.returns-in-None-clause-wide
returns-in-None-clause-wide c =
    let fits_k : FitsSigned w128 c.added.result = search rules in
    (λ e fits. c.in-None.ensures (sum_fits c.args.v c.added.result _ c.ranges.v fits_k c.added.ensures.value fits), λ h. refl)

pub returns-in-Some-clause-wide : goal.returns-in-Some-clause-wide
returns-in-Some-clause-wide c =
    let fits_k : FitsSigned w128 c.added.result = search rules in
    let fits = found_fits c.args.v c.added.result _ c.ranges.v fits_k c.added.ensures.value c.in-Some.ensures.0 in
    (λ e. cc, λ h. absurd (h fits))
