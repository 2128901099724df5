use Rattle.std.proofs.Common.{◌^◌}
use Rattle.rp_table.specs.Cost.{cost_of}
use Rattle.rp_check_walk_levels.proofs.ManyWordProducts.{AreWordsOf}
use Rattle.rp_check_walk_levels.proofs.products.spent_words.Given as goal

abbrev pub invariant-loop-k : goal.invariant-loop-k
invariant-loop-k l = AreWordsOf (λ t s. cost_of l.input.table.now t t) l.high l.walk l.words l.k
