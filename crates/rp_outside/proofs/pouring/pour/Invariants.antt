use Rattle.std.proofs.Common.{◌-◌, length}
use Rattle.rp_outside.proofs.Progress.{IsPouredSoFar}
use Rattle.rp_outside.proofs.pouring.pour.Given as goal

abbrev pub invariant-loop-at : goal.invariant-loop-at
invariant-loop-at g l =
    IsPouredSoFar (g.O.Sink.written l.initial.sink) (g.O.Sink.written l.sink) l.bytes l.at (g.O.Sink.calls l.initial.sink) (g.O.Sink.calls l.sink) (g.O.Sink.faults l.initial.sink) (g.O.Sink.faults l.sink)

abbrev pub decreases-loop-at : goal.decreases-loop-at
decreases-loop-at g l = length l.bytes - l.at
