use Rattle.std.proofs.Common.{◌∙◌}
use Rattle.rp_grid.proofs.HeldLemmas.{made}
use Rattle.rp_grid.proofs.grid.Grid.new.Goals as goal

pub invariant_of-result : goal.invariant_of-result
invariant_of-result g c =
    let a = c.args in let was = c.in_ok-base.ensures in
    (made a.rows a.cols a.fill c.in_ok-base.base c.fill_all.new.places c.in_ok-base.deed a.alloc (c.fill_all.ensures.at ∙ was.0) c.fill_all.ensures.full was.2 was.3 was.4
    c.requires.size c.ranges.rows.fits c.ranges.cols.fits).0

pub returns : goal.returns
returns g c =
    let a = c.args in let was = c.in_ok-base.ensures in
    (made a.rows a.cols a.fill c.in_ok-base.base c.fill_all.new.places c.in_ok-base.deed a.alloc (c.fill_all.ensures.at ∙ was.0) c.fill_all.ensures.full was.2 was.3 was.4
    c.requires.size c.ranges.rows.fits c.ranges.cols.fits).1
