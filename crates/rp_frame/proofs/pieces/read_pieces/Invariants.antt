use Rattle.std.proofs.Common.{◌-◌, length, map}
use Rattle.rp_frame.proofs.PieceLemmas.{IsReadTo}
use Rattle.rp_frame.proofs.pieces.read_pieces.Given as goal

abbrev pub invariant-loop-at : goal.invariant-loop-at
invariant-loop-at l = IsReadTo l.bytes l.at (map (λ piece. piece.now) l.pieces.items)

abbrev pub decreases-loop-at : goal.decreases-loop-at
decreases-loop-at l = length l.bytes - l.at
