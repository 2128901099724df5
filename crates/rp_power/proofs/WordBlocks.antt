-- Blocks of the successive words of a generator.
use Rattle.std.proofs.Common.{◌≡◌, ℕ, ◌+◌, ◌*◌, List, [], ◌∷◌, ◌++◌, refl, ap, ◌∙◌, arith, add-one}
use Rattle.rand_pcg.specs.Lcg.{Lcg}
use Rattle.rp_power.specs.Words.{after_words, generator_of, word_after}
use Rattle.rp_power.proofs.WordLemmas.{word_later, words_later, none_yet}
use Rattle.rp_num.specs.Below.{listed}

-- one more word
pub words_more : (g here : Lcg) (k word : ℕ) (row more : List ℕ) → row ≡ listed k (word_after g) → here ≡ after_words g k → word ≡ word_after here 0 → more ≡ row ++ word ∷ [] → more ≡ listed (k + 1) (word_after g)
words_more g here k word row more so is drawn pushed =
    let at : word_after here 0 ≡ word_after g k = ap (λ (h : Lcg). word_after h 0) is ∙ word_later g k 0 ∙ (let e : k + 0 ≡ k = omega arith in ap (word_after g) e) in
    rw (pushed, so, drawn, at, add-one) refl

-- no block was taken yet
pub first_block : (seed size : ℕ) (g : Lcg) → g ≡ generator_of seed → g ≡ after_words (generator_of seed) (0 * size)
first_block seed size g is = is ∙ none_yet (generator_of seed) ∙ (let e : 0 ≡ 0 * size = omega arith in ap (after_words (generator_of seed)) e)

-- the words of a block
pub block_words : (seed size i : ℕ) (here : Lcg) (words : List ℕ) → here ≡ after_words (generator_of seed) (i * size) → words ≡ listed size (word_after here)
    → words ≡ listed size (λ k. word_after (generator_of seed) (i * size + k))
block_words seed size i here words is drawn =
    drawn ∙ ap (λ (h : Lcg). listed size (word_after h)) is ∙ ap (listed size) (λ j k. word_later (generator_of seed) (i * size) k j)

-- the block after a block
pub next_block : (seed size i : ℕ) (here after : Lcg) → here ≡ after_words (generator_of seed) (i * size) → after ≡ after_words here size → after ≡ after_words (generator_of seed) ((i + 1) * size)
next_block seed size i here after is moved =
    moved ∙ ap (λ (h : Lcg). after_words h size) is ∙ words_later (generator_of seed) (i * size) size
    ∙ (let e : i * size + size ≡ (i + 1) * size = omega arith in ap (after_words (generator_of seed)) e)
