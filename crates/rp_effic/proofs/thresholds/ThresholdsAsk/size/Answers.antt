use Rattle.rp_effic.proofs.CycleTests.{stays}
use Rattle.rp_effic.proofs.thresholds.ThresholdsAsk.size.Goals as goal

pub returns-clause-monotone : goal.returns-clause-monotone
returns-clause-monotone c = stays c.args.self.now.costs.now c.args.self.now.ratios.now c.args.self.now.rising
