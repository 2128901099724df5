-- Texts that are made piece by piece.
use Rattle.std.proofs.Common.{◌≡◌, ℕ, List, [], ◌∷◌, ◌++◌, append_assoc}
use Rattle.rp_print.specs.ListText.{line_of}

-- a line of five numbers with their words
pub five_numbers : (old w1 n1 w2 n2 w3 n3 w4 n4 w5 n5 : List ℕ) → ((((((((((old ++ w1) ++ n1) ++ w2) ++ n2) ++ w3) ++ n3) ++ w4) ++ n4) ++ w5) ++ n5) ++ 10 ∷ []
    ≡ old ++ line_of (w1 ++ n1 ++ w2 ++ n2 ++ w3 ++ n3 ++ w4 ++ n4 ++ w5 ++ n5)
five_numbers old w1 n1 w2 n2 w3 n3 w4 n4 w5 n5 = simp append_assoc

-- a number with its word, and a line of another
pub then_a_line : (old w1 n1 w2 n2 : List ℕ) → ((old ++ w1) ++ n1) ++ line_of (w2 ++ n2) ≡ old ++ line_of (w1 ++ n1 ++ w2 ++ n2)
then_a_line old w1 n1 w2 n2 = simp append_assoc

-- three texts, one after another
pub three_texts : (old a b c : List ℕ) → ((old ++ a) ++ b) ++ c ≡ old ++ (a ++ b ++ c)
three_texts old a b c = simp append_assoc

-- five texts, one after another
pub five_texts : (old a b c d e : List ℕ) → ((((old ++ a) ++ b) ++ c) ++ d) ++ e ≡ old ++ (a ++ b ++ c ++ d ++ e)
five_texts old a b c d e = simp append_assoc

-- two numbers with their words, and a line of what is left
pub then_the_rest : (old w1 n1 w2 n2 last : List ℕ) → ((((old ++ w1) ++ n1) ++ w2) ++ n2) ++ line_of last ≡ old ++ line_of (w1 ++ n1 ++ w2 ++ n2 ++ last)
then_the_rest old w1 n1 w2 n2 last = simp append_assoc

-- four texts, one after another
pub four_texts : (old a b c d : List ℕ) → (((old ++ a) ++ b) ++ c) ++ d ≡ old ++ (a ++ b ++ c ++ d)
four_texts old a b c d = simp append_assoc
