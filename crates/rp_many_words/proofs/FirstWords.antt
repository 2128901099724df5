-- The number that the first words stand for, one word more each time.
use Rattle.std.proofs.Common.{◌≡◌, ◌<◌, ◌≤◌, ◌+◌, ◌*◌, ◌^◌, ℕ, zero, suc, List, [], ◌∷◌, length, take, get_or, arith, ap, add-one, sym}
use Rattle.std.proofs.Math.Nat.{pow-succ', pow-zero}
use Rattle.rp_many_words.specs.ManyWords.{value_of_words}

-- one more with the words from the second on, times the base
moved : (base x v p y w : ℕ) → w ≡ v + p * y → x + base * w ≡ (x + base * v) + (base * p) * y
moved base x v p y w e = let d = ap (λ z. base * z) e in omega (arith, d)

first_more : (words : List ℕ) (k d : ℕ) → k < length words → value_of_words (take (suc k) words) ≡ value_of_words (take k words) + (2 ^ 64) ^ k * get_or words k d
first_more [] k d within = absurd (omega arith)
first_more (x ∷ rest) zero d within = rw (pow-zero (2 ^ 64)) (omega arith)
first_more (x ∷ rest) (suc k) d within =
    rw (pow-succ' (2 ^ 64) k) (moved (2 ^ 64) x (value_of_words (take k rest)) ((2 ^ 64) ^ k) (get_or rest k d) (value_of_words (take (suc k) rest)) (first_more rest k d (omega arith)))

pub one_more_word : (words : List ℕ) (k d : ℕ) → k < length words → value_of_words (take (k + 1) words) ≡ value_of_words (take k words) + (2 ^ 64) ^ k * get_or words k d
one_more_word words k d within = rw add-one (first_more words k d within)
