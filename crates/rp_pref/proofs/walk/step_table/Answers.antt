use Rattle.std.proofs.Common.{◌↔◌, ◌*◌, ◌/◌, ◌%◌, ◌<◌, ◌≤◌, ℕ, false, IsTrue, subst, slice_index_or}
use Rattle.rp_pref.specs.Steps.{StepOf}
use Rattle.rp_pref.proofs.Tables.{by_rows}
use Rattle.rp_pref.proofs.walk.step_table.Goals as goal

pub returns-clause-exact : goal.returns-clause-exact
returns-clause-exact g c =
    let a = c.args in
    let l = c.loop-place in
    let step = λ (s : ℕ) (t : ℕ). StepOf a.steps (g.P.Revealed.weak a.preference.now) (g.P.Revealed.strict a.preference.now) s t in
    by_rows (g.P.Revealed.count a.preference.now) l.table.items step l.place
    (subst (λ m. m * m ≤ l.place) c.n-n.ensures.count c.loop-place-test.false)
    (subst (λ m. (k : ℕ) → k < l.place → IsTrue (slice_index_or l.table.items k false) ↔ step (k / m) (k % m)) c.n-n.ensures.count l.invariant.exact)
