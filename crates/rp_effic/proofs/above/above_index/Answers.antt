use Rattle.std.proofs.Common.{ℕ, List}
use Rattle.std.proofs.lemmas.Result.{IfOk-weaker}
use Rattle.rp_evidence.specs.Preference.{IsWeakAt}
use Rattle.rp_evidence.specs.Walk.{IsShortestWalk}
use Rattle.rp_table.specs.Cost.{cost_at}
use Rattle.rp_effic.specs.EfficiencyVerdict.{IsAbove}
use Rattle.rp_effic.proofs.Returns.{above_one, some_returns}
use Rattle.rp_effic.proofs.above.above_index.Goals as goal

pub unreachable-requires : goal.unreachable-requires
unreachable-requires c =
    some_returns c.args.closure.now c.args.costs.now.n (cost_at c.args.costs.now) c.args.level.num c.args.level.den c.requires.closed c.requires.returns c.in-None.ensures

pub returns : goal.returns
returns c =
    let n = c.args.costs.now.n in
    let costs = cost_at c.args.costs.now in
    let num = c.args.level.num in
    let den = c.args.level.den in
    let s = c.in-Some.s in
    let first = c.in-Some.ensures in
    IfOk-weaker c.shortest_weak_walk.result (λ (walk : List ℕ). IsShortestWalk n (IsWeakAt costs num den) s s walk) (λ walk. IsAbove n costs num den walk)
    (λ walk h. above_one c.args.closure.now n costs num den c.requires.closed s walk c.if-level.false first.0 first.2 h) c.shortest_weak_walk.ensures
