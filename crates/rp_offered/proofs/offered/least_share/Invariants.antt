use Rattle.std.proofs.Common.{◌≡◌}
use Rattle.rp_offered.specs.Offered.{least_below, share_millionths}
use Rattle.rp_offered.proofs.offered.least_share.Given as goal

abbrev pub invariant-loop-t : goal.invariant-loop-t
invariant-loop-t l = l.least ≡ least_below l.t (share_millionths l.table)
