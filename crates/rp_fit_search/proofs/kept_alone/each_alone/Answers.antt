use Rattle.rp_fit_search.proofs.Alone.{groups_pushed}
use Rattle.rp_fit_search.proofs.kept_alone.each_alone.Goals as goal

pub loop-s-preserved : goal.loop-s-preserved
loop-s-preserved c =
    let l = c.loop-s in
    groups_pushed l.s l.groups.items c.in_ok-alone.field-0 c.push.new.self.items l.invariant c.in_ok-alone.ensures c.in_ok-push.ensures.items
