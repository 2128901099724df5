-- Texts that are made piece by piece.
use Rattle.std.proofs.Common.{◌≡◌, ℕ, List, [], ◌∷◌, ◌++◌, append_assoc, append-nil}
use Rattle.rp_print.specs.ListText.{line_of}

-- a line of five numbers with their words
pub five_numbers : (old w1 n1 w2 n2 w3 n3 w4 n4 w5 n5 : List ℕ) → ((((((((((old ++ w1) ++ n1) ++ w2) ++ n2) ++ w3) ++ n3) ++ w4) ++ n4) ++ w5) ++ n5) ++ 10 ∷ [] ≡ old ++ line_of (w1 ++ n1 ++ w2 ++ n2 ++ w3 ++ n3 ++ w4 ++ n4 ++ w5 ++ n5)
five_numbers old w1 n1 w2 n2 w3 n3 w4 n4 w5 n5 = simp append_assoc

-- nothing after a text
pub nothing_more : (old : List ℕ) → old ≡ old ++ []
nothing_more old = simp append-nil
