use Rattle.std.proofs.Common.{◌≡◌}
use Rattle.rp_num.specs.Below.{listed}
use Rattle.rp_power.specs.Words.{after_words, word_after}
use Rattle.rp_power.proofs.count.draw_words.Given as goal

abbrev pub invariant-loop : goal.invariant-loop
invariant-loop l = record {
  drawn : l.words.items ≡ listed l.counter (word_after l.fn.generator);
  moved : l.generator ≡ after_words l.fn.generator l.counter;
}
