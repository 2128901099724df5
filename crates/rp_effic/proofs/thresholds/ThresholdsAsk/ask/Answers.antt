use Rattle.std.proofs.Common.{subst}
use Rattle.std.proofs.lemmas.List.{get_or_default}
use Rattle.rp_table.specs.Cost.{cost_at}
use Rattle.rp_effic.specs.InnerCycles.{HasCycle}
use Rattle.rp_effic.specs.declared.ratio.Ratio.{Ratio}
use Rattle.rp_effic.proofs.thresholds.ThresholdsAsk.ask.Goals as goal

pub returns-clause-value : goal.returns-clause-value
returns-clause-value c =
    let costs = c.args.self.now.costs.now in
    let ratios = c.args.self.now.ratios.now in
    let here = c.index-self-i.result in (
      λ e. λ d. subst (λ (x : Ratio). HasCycle costs.n (cost_at costs) x.num x.den) (get_or_default ratios c.args.i here d c.requires.place)
          (c.has_closed_walk.ensures.0 e),
      λ h. c.has_closed_walk.ensures.1 (h here),
    )

pub returns-clause-holds_stays : goal.returns-clause-holds_stays
returns-clause-holds_stays c = λ j. (λ h. h, λ h. h)
