use Rattle.rp_pref.proofs.DepthLemmas.{goes_deeper, goes_no_deeper}
use Rattle.rp_pref.proofs.search.deepen_all.Goals as goal

pub loop-depth-preserved : goal.loop-depth-preserved
loop-depth-preserved c =
    let a = c.args in
    let l = c.loop-depth in
    let r = c.deepen in
    goes_deeper a.table.now a.n a.s l.depth l.depths l.before l.invariant c.requires.start r.new.depths r.new.before r.result
    r.ensures.sound r.ensures.adds r.ensures.looked r.ensures.finds c.loop-depth-test.true

pub returns-clause-least : goal.returns-clause-least
returns-clause-least c =
    let a = c.args in
    let l = c.loop-depth in
    let r = c.deepen in
    goes_no_deeper a.table.now a.n a.s l.depth l.depths l.before l.invariant c.requires.start r.new.depths r.new.before r.result
    r.ensures.sound r.ensures.adds r.ensures.looked r.ensures.finds c.loop-depth-test.false
