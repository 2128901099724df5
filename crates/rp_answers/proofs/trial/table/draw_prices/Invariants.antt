use Rattle.std.proofs.Common.{◌≡◌}
use Rattle.rp_num.specs.Below.{listed}
use Rattle.rp_answers.specs.TrialTable.{trial_price}
use Rattle.rp_power.specs.Words.{after_words}
use Rattle.rp_answers.proofs.trial.table.draw_prices.Given as goal

abbrev pub invariant-loop : goal.invariant-loop
invariant-loop l = record {
  drawn : l.row.items ≡ listed l.counter (trial_price l.fn.generator);
  moved : l.generator ≡ after_words l.fn.generator l.counter;
}
