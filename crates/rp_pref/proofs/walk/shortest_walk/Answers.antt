use Rattle.std.proofs.Common.{◌≡◌, ◌∙◌, sym, arith, slice_index}
use Rattle.std.proofs.lemmas.List.{get_or_read}
use Rattle.rp_pref.specs.Steps.{StepOf}
use Rattle.rp_pref.proofs.WalkLemmas.{none_by_search, shortest_by_search}
use Rattle.rp_pref.proofs.walk.shortest_walk.Goals as goal

pub returns-then-index-eq0-clause-none : goal.returns-then-index-eq0-clause-none
returns-then-index-eq0-clause-none g c =
    let a = c.args in
    let w = c.in_ok-walks in
    let depth : c.index.result.now ≡ slice_index w.walks.depths.items a.t =
    get_or_read w.walks.depths.items a.t c.index.result.now (omega (arith, w.ensures.sound.depth_each, c.n-n.ensures.count, c.requires.to)) c.index.ensures 0 in
    none_by_search c.n-n.result (g.P.Revealed.count a.preference.now) a.s a.t c.n-n.ensures.count c.deref.result.now c.in_ok-table.table.items c.deref.ensures.value
    (StepOf a.steps (g.P.Revealed.weak a.preference.now) (g.P.Revealed.strict a.preference.now)) c.in_ok-table.ensures.exact
    w.walks.depths.items w.walks.before.items w.ensures.sound w.ensures.least (sym depth ∙ c.if-index-eq0.true)

pub returns-clause-shortest : goal.returns-clause-shortest
returns-clause-shortest g c =
    let a = c.args in
    let w = c.in_ok-walks in
    let depth : c.index.result.now ≡ slice_index w.walks.depths.items a.t =
    get_or_read w.walks.depths.items a.t c.index.result.now (omega (arith, w.ensures.sound.depth_each, c.n-n.ensures.count, c.requires.to)) c.index.ensures 0 in
    shortest_by_search c.n-n.result (g.P.Revealed.count a.preference.now) a.s a.t c.n-n.ensures.count c.deref.result.now c.in_ok-table.table.items c.deref.ensures.value
    (StepOf a.steps (g.P.Revealed.weak a.preference.now) (g.P.Revealed.strict a.preference.now)) c.in_ok-table.ensures.exact
    w.walks.depths.items w.walks.before.items w.ensures.sound w.ensures.least c.in_ok-walk.walk c.in_ok-walk.ensures.walk c.in_ok-walk.ensures.steps
    (λ e. c.if-index-eq0.false (depth ∙ e))
