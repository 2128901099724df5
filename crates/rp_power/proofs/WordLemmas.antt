-- Words of a generator one after another.
use Rattle.std.proofs.Common.{◌≡◌, ℕ, zero, suc, ◌+◌, refl, ap, ◌∙◌, arith}
use Rattle.rand_pcg.specs.Lcg.{Lcg}
use Rattle.rand_pcg.specs.Pcg.{pcg32}
use Rattle.rp_power.specs.Words.{after_words, word_after}

-- words after words
pub words_later : (g : Lcg) (a b : ℕ) → after_words (after_words g a) b ≡ after_words g (a + b)
unfolding after_words
words_later g a zero = ap (after_words g) (omega arith)
words_later g a (suc b) = ap (λ (h : Lcg). (pcg32 h).1) (words_later g a b) ∙ (let e : suc (a + b) ≡ a + suc b = omega arith in ap (after_words g) e)

pub word_later : (g : Lcg) (a b : ℕ) → word_after (after_words g a) b ≡ word_after g (a + b)
unfolding word_after
word_later g a b = ap (λ (h : Lcg). (pcg32 h).0) (words_later g a b)

pub none_yet : (g : Lcg) → g ≡ after_words g 0
unfolding after_words
none_yet g = refl

pub one_word_more : (g here after : Lcg) (k : ℕ) → here ≡ after_words g k → after ≡ after_words here 1 → after ≡ after_words g (k + 1)
one_word_more g here after k is moved = moved ∙ ap (λ (h : Lcg). after_words h 1) is ∙ words_later g k 1
