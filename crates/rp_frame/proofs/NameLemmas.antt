-- Names one after the other, each ended by a zero byte, one name at a time.
use Rattle.std.proofs.Common.{◌≡◌, ◌∙◌, ◌++◌, ◌+◌, ◌<◌, ◌≤◌, ℕ, List, [], ◌∷◌, append_assoc, ap, drop, get_or, length, map, sym}
use Rattle.std.proofs.Math.ListN.{drop_of_length-le}
use Rattle.std.proofs.lemmas.List.{append-nil, at_drop_more}
use Rattle.std.specs.Borrow.{Bor}
use Rattle.rp_frame.specs.Names.{ended_names}

abbrev pub texts : List (Bor (List ℕ)) → List (List ℕ)
texts names = map (λ (name : Bor (List ℕ)). name.now) names

-- one name more
pub ended_more : (names : List (Bor (List ℕ))) (i : ℕ) (d : Bor (List ℕ)) (before name added new : List ℕ) → i < length names
    → before ++ ended_names (texts (drop i names)) ≡ ended_names (texts names)
    → name ≡ (get_or names i d).now → added ≡ before ++ name → new ≡ added ++ 0 ∷ []
    → new ++ ended_names (texts (drop (i + 1) names)) ≡ ended_names (texts names)
unfolding ended_names
ended_more names i d before name added new within so_far is adds ends =
    let rest : List ℕ = ended_names (texts (drop (i + 1) names)) in
    let own : List ℕ = (get_or names i d).now in
    let all : new ++ rest ≡ before ++ (own ++ 0 ∷ rest) = rw (ends, adds, is) (append_assoc (before ++ own) (0 ∷ []) rest ∙ append_assoc before own (0 ∷ rest)) in
    let here : ended_names (texts (drop i names)) ≡ own ++ 0 ∷ rest = at_drop_more (λ xs. ended_names (texts xs)) names i d within in
    all ∙ sym (ap (λ left. before ++ left) here) ∙ so_far

-- all of them
pub ended_all : (names : List (Bor (List ℕ))) (i : ℕ) (text : List ℕ) → length names ≤ i
    → text ++ ended_names (texts (drop i names)) ≡ ended_names (texts names) → text ≡ ended_names (texts names)
unfolding ended_names
ended_all names i text past so_far =
    sym (append-nil text) ∙ sym (ap (λ left. text ++ ended_names (texts left)) (drop_of_length-le names past)) ∙ so_far
