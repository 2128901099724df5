-- The pieces of bytes, one after another.
use Rattle.std.proofs.Common.{ℕ, zero, suc, ◌≡◌, ◌≢◌, ◌∙◌, ◌+◌, ◌<◌, ◌≤◌, List, [], ◌∷◌, ◌++◌, All, length, drop, Option, Some, None}
use Rattle.std.proofs.Common.{option_map, option_and_then, refl, sym, ap, subst, arith, append-nil, append_assoc, length-append, length-drop}
use Rattle.std.proofs.lemmas.List.{drop-drop, drop_all}
use Rattle.std.proofs.lemmas.Iterator.Adapters.{option_map_id}
use Rattle.rp_frame.specs.Frames.{onto_first_piece, pieces_in}

onto_joined : (byte : ℕ) (piece : List ℕ) (rest : Option (List (List ℕ)))
    → option_and_then (onto_first_piece byte) (option_map (λ pieces. piece ∷ pieces) rest)
    ≡ option_map (λ pieces. (byte ∷ piece) ∷ pieces) rest
onto_joined byte piece None = refl
onto_joined byte piece (Some pieces) = refl

-- the piece before a zero byte goes before the others
pub one_piece : (piece rest : List ℕ) → All (λ byte. byte ≢ 0) piece
    → pieces_in (piece ++ 0 ∷ rest) ≡ option_map (λ pieces. piece ∷ pieces) (pieces_in rest)
unfolding pieces_in
one_piece [] rest plain = refl
one_piece (zero ∷ piece) rest plain = absurd (plain 0 0 (omega arith) refl)
one_piece (suc byte ∷ piece) rest plain =
    let tail : All (λ byte. byte ≢ 0) piece = λ k d within. plain (suc k) d (omega (arith, within)) in
    ap (option_and_then (onto_first_piece (suc byte))) (one_piece piece rest tail) ∙ onto_joined (suc byte) piece (pieces_in rest)

-- bytes with no zero byte have no pieces
pub no_piece : (byte : ℕ) (bytes : List ℕ) → All (λ byte. byte ≢ 0) (byte ∷ bytes) → pieces_in (byte ∷ bytes) ≡ None
unfolding pieces_in
no_piece zero bytes plain = absurd (plain 0 0 (omega arith) refl)
no_piece (suc byte) [] plain = refl
no_piece (suc byte) (next ∷ bytes) plain =
    let tail : All (λ byte. byte ≢ 0) (next ∷ bytes) = λ k d within. plain (suc k) d (omega (arith, within)) in
    ap (option_and_then (onto_first_piece (suc byte))) (no_piece next bytes tail)

pieces_of_none : pieces_in [] ≡ Some []
unfolding pieces_in
pieces_of_none = refl

-- the pieces that were read stand before those of the rest, from `at` on
pub record IsReadTo (bytes : List ℕ) (at : ℕ) (pieces : List (List ℕ)) : Type 0 where
  pub within : at ≤ length bytes
  pub joined : pieces_in bytes ≡ option_map (λ rest. pieces ++ rest) (pieces_in (drop at bytes))

pub at_start : (bytes : List ℕ) → IsReadTo bytes 0 []
at_start bytes = record { within = omega arith; joined = sym (option_map_id (pieces_in bytes)) }

joined_more : (pieces : List (List ℕ)) (piece : List ℕ) (rest : Option (List (List ℕ)))
    → option_map (λ more. pieces ++ more) (option_map (λ more. piece ∷ more) rest)
    ≡ option_map (λ more. (pieces ++ piece ∷ []) ++ more) rest
joined_more pieces piece None = refl
joined_more pieces piece (Some more) = ap Some (sym (append_assoc pieces (piece ∷ []) more))

pub one_more : (bytes : List ℕ) (at : ℕ) (pieces : List (List ℕ)) (piece : List ℕ) → IsReadTo bytes at pieces
    → drop at bytes ≡ piece ++ 0 ∷ drop (length piece + 1) (drop at bytes) → All (λ byte. byte ≢ 0) piece
    → IsReadTo bytes (at + (length piece + 1)) (pieces ++ piece ∷ [])
one_more bytes at pieces piece read ended plain =
    let rest = drop (length piece + 1) (drop at bytes) in
    let long : length (drop at bytes) ≡ length (piece ++ 0 ∷ rest) = ap length ended in
    record {
      within = omega (arith, long, length-append piece (0 ∷ rest), length-drop at bytes, read.within);
      joined = read.joined
          ∙ ap (λ (left : List ℕ). option_map (λ more. pieces ++ more) (pieces_in left)) ended
          ∙ ap (option_map (λ more. pieces ++ more)) (one_piece piece rest plain)
          ∙ joined_more pieces piece (pieces_in rest)
          ∙ ap (λ (left : List ℕ). option_map (λ more. (pieces ++ piece ∷ []) ++ more) (pieces_in left)) (drop-drop (length piece + 1) at bytes);
    }

pub at_end : (bytes : List ℕ) (at : ℕ) (pieces : List (List ℕ)) → IsReadTo bytes at pieces → length bytes ≤ at
    → Some pieces ≡ pieces_in bytes
at_end bytes at pieces read past =
    sym (read.joined ∙ ap (λ (left : List ℕ). option_map (λ more. pieces ++ more) (pieces_in left)) (drop_all at bytes past)
    ∙ ap (option_map (λ more. pieces ++ more)) pieces_of_none ∙ ap Some (append-nil pieces))

pub not_ended : (bytes : List ℕ) (at : ℕ) (pieces : List (List ℕ)) → IsReadTo bytes at pieces → at < length bytes
    → All (λ byte. byte ≢ 0) (drop at bytes) → None ≡ pieces_in bytes
not_ended bytes at pieces read before plain = sym (read.joined ∙ ap (option_map (λ more. pieces ++ more)) (none (drop at bytes) refl))
  where
    none : (left : List ℕ) → drop at bytes ≡ left → pieces_in (drop at bytes) ≡ None
    none [] is = absurd (omega (arith, before, length-drop at bytes, ap length is))
    none (byte ∷ left) is = ap pieces_in is ∙ no_piece byte left (subst (All (λ byte. byte ≢ 0)) is plain)
