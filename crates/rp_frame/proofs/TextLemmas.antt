-- Pieces that are text, one after another.
use Rattle.std.proofs.Common.{ℕ, zero, suc, ◌≡◌, ◌∙◌, ◌+◌, ◌<◌, ◌≤◌, List, [], ◌∷◌, ◌++◌, All, IsUtf8, codes, length, map, take, get_or, sym, subst, ap, arith}
use Rattle.std.proofs.lemmas.List.{get_or-map, length-map, map-append, take_all, take_more}
use Rattle.std.proofs.lemmas.List.Elements.{All-append}
use Rattle.std.specs.Borrow.{Bor}

abbrev pub no_bytes : Bor (List ℕ)
no_bytes = record { ref_ptr = (0, 0); now = [] }

abbrev pub shown : List (Bor (List ℕ)) → List (List ℕ)
shown = map (λ (piece : Bor (List ℕ)). piece.now)

pub shown_more : (pieces : List (Bor (List ℕ))) (i : ℕ) → i < length pieces
    → shown (take (i + 1) pieces) ≡ shown (take i pieces) ++ (get_or pieces i no_bytes).now ∷ []
shown_more pieces i before =
    ap shown (take_more pieces i no_bytes before) ∙ map-append (λ (piece : Bor (List ℕ)). piece.now) (take i pieces) (get_or pieces i no_bytes ∷ [])

one_all : (text : List ℕ) → IsUtf8 text → All IsUtf8 (text ∷ [])
one_all text is zero d within = is
one_all text is (suc k) d within = absurd (omega (arith, within))

pub text_more : (pieces : List (Bor (List ℕ))) (i : ℕ) → i < length pieces → All IsUtf8 (shown (take i pieces))
    → IsUtf8 (get_or pieces i no_bytes).now → All IsUtf8 (shown (take (i + 1) pieces))
text_more pieces i before all is =
    subst (All IsUtf8) (sym (shown_more pieces i before)) (All-append IsUtf8 (shown (take i pieces)) _ all (one_all _ is))

pub text_all : (pieces : List (Bor (List ℕ))) (i : ℕ) → length pieces ≤ i → All IsUtf8 (shown (take i pieces)) → All IsUtf8 (shown pieces)
text_all pieces i past all = subst (λ (some : List (Bor (List ℕ))). All IsUtf8 (shown some)) (take_all i pieces past) all

pub no_text : (pieces : List (Bor (List ℕ))) (i : ℕ) → i < length pieces → (IsUtf8 (get_or pieces i no_bytes).now → ⊥) → All IsUtf8 (shown pieces) → ⊥
no_text pieces i before other all =
    let inside : i < length (shown pieces) = omega (arith, before, length-map pieces (λ (piece : Bor (List ℕ)). piece.now)) in
    other (subst IsUtf8 (get_or-map (λ (piece : Bor (List ℕ)). piece.now) pieces i no_bytes [] before) (all i [] inside))

pub words_more : (texts : List (List ℕ)) (pieces : List (Bor (List ℕ))) (i : ℕ) → i < length pieces
    → texts ≡ codes "rp" ∷ shown (take i pieces)
    → texts ++ (get_or pieces i no_bytes).now ∷ [] ≡ codes "rp" ∷ shown (take (i + 1) pieces)
words_more texts pieces i before is =
    let piece = (get_or pieces i no_bytes).now in
    ap (λ (all : List (List ℕ)). all ++ piece ∷ []) is ∙ ap (λ (all : List (List ℕ)). codes "rp" ∷ all) (sym (shown_more pieces i before))

pub shown_at : (pieces : List (Bor (List ℕ))) (i : ℕ) → i < length pieces
    → (get_or pieces i no_bytes).now ≡ get_or (shown pieces) i (get_or pieces i no_bytes).now
shown_at pieces i before = sym (get_or-map (λ (piece : Bor (List ℕ)). piece.now) pieces i no_bytes (get_or pieces i no_bytes).now before)
