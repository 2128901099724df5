use Rattle.rp_table.specs.Cost.{cost_of}
use Rattle.rp_clauses.proofs.WalkProducts.{IsAfter}
use Rattle.rp_clauses.proofs.homothetic.check_products.Given as goal

abbrev pub invariant-loop-k : goal.invariant-loop-k
invariant-loop-k l = IsAfter (cost_of l.input.table.now) l.start l.walk l.k l.product
