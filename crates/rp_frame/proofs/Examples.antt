-- What worked frames hold.
use Rattle.std.proofs.Common.{◌≡◌, [], ◌∷◌, Some, None, refl}
use Rattle.rp_frame.specs.Frames.{pieces_in, parts_in, named_parts}

-- two pieces, and an empty one between
two : pieces_in (112 ∷ 97 ∷ 0 ∷ 0 ∷ 116 ∷ 0 ∷ []) ≡ Some ((112 ∷ 97 ∷ []) ∷ [] ∷ (116 ∷ []) ∷ [])
unfolding pieces_in
two = refl

not_ended : pieces_in (112 ∷ 0 ∷ 116 ∷ []) ≡ None
unfolding pieces_in
not_ended = refl

nothing : pieces_in [] ≡ Some []
unfolding pieces_in
nothing = refl

cut : parts_in (2 ∷ 0 ∷ 1 ∷ []) (7 ∷ 8 ∷ 9 ∷ []) ≡ Some ((7 ∷ 8 ∷ []) ∷ [] ∷ (9 ∷ []) ∷ [])
unfolding parts_in
cut = refl

left_over : parts_in (2 ∷ []) (7 ∷ 8 ∷ 9 ∷ []) ≡ None
unfolding parts_in
left_over = refl

missing : parts_in (2 ∷ 2 ∷ []) (7 ∷ 8 ∷ 9 ∷ []) ≡ None
unfolding parts_in
missing = refl

more_names : named_parts ((112 ∷ []) ∷ (113 ∷ []) ∷ []) ((7 ∷ []) ∷ []) ≡ None
unfolding named_parts
more_names = refl
