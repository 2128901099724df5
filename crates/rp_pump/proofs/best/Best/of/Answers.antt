use Rattle.rp_pump.proofs.best.Best.of.Goals as goal

pub ratio_of-ratio-requires : goal.ratio_of-ratio-requires
ratio_of-ratio-requires c = rw c.as_slice.ensures c.requires

pub returns-clause-best : goal.returns-clause-best
returns-clause-best c = rw c.as_slice.ensures at c.ratio_of-ratio.ensures
