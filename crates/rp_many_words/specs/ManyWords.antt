-- The natural number that words of 64 bits stand for, the lowest first (positional notation; Knuth, The Art of Computer
-- Programming, volume 2, section 4.3.1).
use Rattle.std.specs.Prelude.{ℕ, ◌+◌, ◌*◌, ◌^◌, List, [], ◌∷◌}

abbrev pub value_of_words : List ℕ → ℕ
value_of_words [] = 0
value_of_words (low ∷ rest) = low + 2 ^ 64 * value_of_words rest
