use Rattle.std.proofs.Common.{ℕ, ap}
use Rattle.rand_pcg.specs.Lcg.{Lcg}
use Rattle.rp_power.specs.Words.{after_words, word_after}
use Rattle.rp_power.proofs.words.draw.Goals as goal

pub returns-clause-word : goal.returns-clause-word
unfolding after_words word_after
returns-clause-word c = ap (λ (p : ℕ × Lcg). p.0) c.next_word.ensures

pub returns-clause-moved : goal.returns-clause-moved
unfolding after_words
returns-clause-moved c = ap (λ (p : ℕ × Lcg). p.1) c.next_word.ensures
