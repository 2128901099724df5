-- Texts that are made piece by piece.
use Rattle.std.proofs.Common.{◌≡◌, ℕ, List, [], ◌∷◌, ◌++◌, append_assoc, refl, OnOk, Result, Ok, Err}
use Rattle.rp_print.specs.ListText.{line_of}

-- a line of four numbers with their words
pub four_numbers : (old w1 n1 w2 n2 w3 n3 w4 n4 : List ℕ) → ((((((((old ++ w1) ++ n1) ++ w2) ++ n2) ++ w3) ++ n3) ++ w4) ++ n4) ++ 10 ∷ [] ≡ old ++ line_of (w1 ++ n1 ++ w2 ++ n2 ++ w3 ++ n3 ++ w4 ++ n4)
four_numbers old w1 n1 w2 n2 w3 n3 w4 n4 = simp append_assoc

-- a line of three numbers with their words
pub three_numbers : (old w1 n1 w2 n2 w3 n3 : List ℕ) → ((((((old ++ w1) ++ n1) ++ w2) ++ n2) ++ w3) ++ n3) ++ 10 ∷ [] ≡ old ++ line_of (w1 ++ n1 ++ w2 ++ n2 ++ w3 ++ n3)
three_numbers old w1 n1 w2 n2 w3 n3 = simp append_assoc

-- a line of one number with its words
pub one_number : (old w1 n1 : List ℕ) → ((old ++ w1) ++ n1) ++ 10 ∷ [] ≡ old ++ line_of (w1 ++ n1)
one_number old w1 n1 = simp append_assoc

-- three pieces, of which two come after the first
pub three_pieces : (old a b c : List ℕ) → ((old ++ a) ++ b) ++ c ≡ old ++ ((a ++ b) ++ c)
three_pieces old a b c = simp append_assoc

pub on_ok : {A E : Type 0} (P Q : Type 0) → (P → Q) → (r : Result A E) → OnOk r P → OnOk r Q
on_ok P Q f (Ok x) h = f h
on_ok P Q f (Err e) h = h

-- a line of a word, a level, a word and a word
pub index_line : (old w1 level w2 last : List ℕ) → (((old ++ w1) ++ level) ++ w2) ++ line_of last ≡ old ++ line_of (w1 ++ level ++ w2 ++ last)
index_line old w1 level w2 last = simp append_assoc

-- a line of two numbers with their words
pub two_numbers : (old w1 n1 w2 n2 : List ℕ) → ((((old ++ w1) ++ n1) ++ w2) ++ n2) ++ 10 ∷ [] ≡ old ++ line_of (w1 ++ n1 ++ w2 ++ n2)
two_numbers old w1 n1 w2 n2 = simp append_assoc

-- two numbers with their words
pub two_words : (old w1 n1 w2 n2 : List ℕ) → (((old ++ w1) ++ n1) ++ w2) ++ n2 ≡ old ++ (w1 ++ n1 ++ w2 ++ n2)
two_words old w1 n1 w2 n2 = simp append_assoc

-- a line in two pieces, and what comes after it
pub line_in_two : (old head tail more : List ℕ) → (((old ++ head) ++ tail) ++ 10 ∷ []) ++ more ≡ old ++ (line_of (head ++ tail) ++ more)
line_in_two old head tail more = simp append_assoc

-- a line that begins with a name
pub named_line : (old name words value : List ℕ) → (old ++ name) ++ line_of (words ++ value) ≡ old ++ line_of (name ++ words ++ value)
named_line old name words value = simp append_assoc

-- five texts, one after another
pub five_texts : (old a b c d e : List ℕ) → ((((old ++ a) ++ b) ++ c) ++ d) ++ e ≡ old ++ (a ++ b ++ c ++ d ++ e)
five_texts old a b c d e = simp append_assoc

-- a line, and what comes after it
pub line_and_more : (old line more : List ℕ) → (old ++ line_of line) ++ more ≡ old ++ (line_of line ++ more)
line_and_more old line more = simp append_assoc

-- three texts after nothing
pub three_from_nothing : (a b c none first second third : List ℕ) → none ≡ [] → first ≡ none ++ a → second ≡ first ++ b → third ≡ second ++ c → third ≡ a ++ b ++ c
three_from_nothing a b c none first second third z f s t = rw (t, s, f, z) refl
