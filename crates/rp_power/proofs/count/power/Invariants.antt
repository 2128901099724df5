use Rattle.std.proofs.Common.{◌≡◌, ◌*◌, ◌≤◌}
use Rattle.rp_power.specs.Words.{after_words, generator_of}
use Rattle.rp_power.specs.PowerCount.{IsPowerCount, words_of}
use Rattle.rp_power.proofs.count.power.Given as goal

abbrev pub invariant-loop : goal.invariant-loop
invariant-loop l = record {
  moved : l.generator ≡ after_words (generator_of l.seed) (l.counter * words_of l.table);
  counted : IsPowerCount l.table l.seed l.counter l.violations;
  few : l.violations ≤ l.counter;
}
