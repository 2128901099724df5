use Rattle.std.proofs.Common.{◌≡◌, ◌∷◌, All, IsUtf8, codes, map, string_bytes, take}
use Rattle.rp_frame.proofs.texts.words_of.Given as goal

abbrev pub invariant-loop-piece : goal.invariant-loop-piece
invariant-loop-piece l =
    (map string_bytes l.words.items ≡ codes "rp" ∷ map (λ piece. piece.now) (take l.piece-index l.pieces))
    × All IsUtf8 (map (λ piece. piece.now) (take l.piece-index l.pieces))
