use Rattle.rp_filled.proofs.demand.found_good.Goals as goal

pub returns : goal.returns
returns c = record { lower = c.in_ok-lower.ensures; upper = c.in_ok-upper.ensures }
