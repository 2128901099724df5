use Rattle.std.proofs.Common.{◌+◌, ◌-◌, length}
use Rattle.std.specs.Prelude.{vec_len}
use Rattle.rp_outside.proofs.Listed.{IsAskedSoFar}
use Rattle.rp_outside.proofs.Progress.{IsLoadedSoFar, KeepsNames}
use Rattle.rp_outside.proofs.loading.load.Given as goal

abbrev pub invariant-loop-bytes : goal.invariant-loop-bytes
invariant-loop-bytes g l =
    IsLoadedSoFar (g.D.Desk.bytes l.initial.desk l.name) l.bytes.items l.limit (g.D.Desk.calls l.initial.desk) (g.D.Desk.calls l.desk)
    × KeepsNames (g.D.Desk.bytes l.initial.desk) (g.D.Desk.bytes l.desk) (g.D.Desk.faults l.initial.desk) (g.D.Desk.faults l.desk)
    × IsAskedSoFar (g.D.Desk.asked l.initial.desk) (g.D.Desk.asked l.desk) l.name (vec_len l.bytes)

abbrev pub decreases-loop-bytes : goal.decreases-loop-bytes
decreases-loop-bytes g l = l.limit + 1 - length l.bytes.items
