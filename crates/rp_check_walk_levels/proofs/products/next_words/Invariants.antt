use Rattle.std.proofs.Common.{◌^◌}
use Rattle.rp_table.specs.Cost.{cost_of}
use Rattle.rp_check_walk_levels.proofs.ManyWordProducts.{AreWordsOf}
use Rattle.rp_check_walk_levels.proofs.products.next_words.Given as goal

abbrev pub invariant-loop-k : goal.invariant-loop-k
invariant-loop-k l = AreWordsOf (cost_of l.input.table.now) (2 ^ 40) l.walk l.words l.k
