use Rattle.std.proofs.Common.{◌≤◌, take}
use Rattle.std.specs.List.{flat_map}
use Rattle.rp_outside.specs.Known.{Grows}
use Rattle.rp_front.proofs.telling.tell.Given as goal

abbrev pub invariant-loop-piece : goal.invariant-loop-piece
invariant-loop-piece g l = record {
  grown : Grows (g.E.Sink.written l.fn.err) (g.E.Sink.written l.err) (flat_map (λ piece. piece.now) (take l.piece-index l.pieces));
  never_falls : g.E.Sink.faults l.fn.err ≤ g.E.Sink.faults l.err;
}
