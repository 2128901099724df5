use Rattle.rp_evidence.specs.Preference.{IsWeakAt}
use Rattle.rp_table.specs.Cost.{cost_at}
use Rattle.rp_effic.proofs.LeftLemmas.{told}
use Rattle.rp_effic.proofs.closed_walk.has_closed_walk.Goals as goal

pub returns : goal.returns
returns c =
    let a = c.args in
    let swept = c.take_away in
    told a.costs.now.n (IsWeakAt (cost_at a.costs.now) a.level.num a.level.den) a.steps.now.starts.items a.steps.now.to.items swept.new.left swept.new.at
    swept.ensures.left (swept.ensures.looked.lead c.sweeps-test.false) c.any_left.result c.any_left.ensures
