use Rattle.std.proofs.Common.{◌≢◌, All, take}
use Rattle.rp_frame.proofs.pieces.first_piece.Given as goal

abbrev pub invariant-loop-place : goal.invariant-loop-place
invariant-loop-place l = All (λ byte. byte ≢ 0) (take l.place l.bytes)
