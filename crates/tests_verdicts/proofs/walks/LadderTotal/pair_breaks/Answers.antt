use Rattle.rp_quasi.proofs.Steps.{breaks_tested}
use Rattle.tests_verdicts.specs.Ladder.{ladder_cost}
use Rattle.tests_verdicts.proofs.walks.LadderTotal.pair_breaks.Goals as goal

pub returns : goal.returns
returns c =
    breaks_tested c.args.self.now.n ladder_cost c.args.s c.args.t _ _ _ _ c.requires.from c.cost.ensures.value c.cost-2.ensures.value c.cost-3.ensures.value c.cost-4.ensures.value
