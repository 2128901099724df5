-- The generator of a seed, and its successive words: PCG XSH RR 64/32 (O'Neill, "PCG: a family of simple fast
-- space-efficient statistically good algorithms for random number generation", 2014), stream 1.
use Rattle.std.specs.Prelude.{ℕ, zero, suc}
use Rattle.rand_pcg.specs.Lcg.{Lcg, increment_of, started}
use Rattle.rand_pcg.specs.Pcg.{multiplier_64, pcg32}

-- the generator of a seed
unfoldable pub generator_of : ℕ → Lcg
generator_of seed = started 64 multiplier_64 seed (increment_of 64 1)

-- the generator after so many words
unfoldable pub after_words : Lcg → ℕ → Lcg
after_words generator zero = generator
after_words generator (suc k) = (pcg32 (after_words generator k)).1

-- the word that comes after so many
unfoldable pub word_after : Lcg → ℕ → ℕ
word_after generator k = (pcg32 (after_words generator k)).0
