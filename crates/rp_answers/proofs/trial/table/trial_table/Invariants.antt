use Rattle.std.proofs.Common.{◌≡◌}
use Rattle.rp_num.specs.Below.{rows_below}
use Rattle.rp_answers.specs.TrialTable.{record_generator, trial_price, trial_quantity}
use Rattle.rp_answers.proofs.trial.table.trial_table.Given as goal

abbrev pub invariant-loop : goal.invariant-loop
invariant-loop l = record {
  moved : l.generator ≡ record_generator l.seed l.goods l.counter;
  priced : l.prices.items ≡ rows_below l.counter l.goods (λ t. trial_price (record_generator l.seed l.goods t));
  bought : l.quantities.items ≡ rows_below l.counter l.goods (λ t. trial_quantity l.goods (record_generator l.seed l.goods t));
}
