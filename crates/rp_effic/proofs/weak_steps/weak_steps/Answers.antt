use Rattle.std.proofs.Common.{◌≡◌, length, rules}
use Rattle.rp_table.specs.Cost.{cost_at}
use Rattle.rp_effic.proofs.RowLemmas.{row_kept}
use Rattle.rp_effic.proofs.weak_steps.weak_steps.Goals as goal

pub loop-s-preserved : goal.loop-s-preserved
loop-s-preserved c =
    let l = c.loop-s in
    let end : c.len.result ≡ length c.add_row.new.to.items = search rules in
    row_kept l.s c.args.costs.now.n (cost_at c.args.costs.now) l.starts.items l.to.items c.add_row.new.to.items l.invariant c.in_ok-add_row.ensures
    c.len.result c.push-in-loop-s.new.self.items c.in_ok-push-2.ensures.items end
