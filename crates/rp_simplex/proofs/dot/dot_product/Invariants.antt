use Rattle.std.proofs.Common.{◌≡◌, ◌*◌, ◌≤◌}
use Rattle.std.specs.Int.RustNames.{unsigned_abs}
use Rattle.rp_simplex.specs.InnerCombined.{dot}
use Rattle.rp_simplex.proofs.DotLemmas.{product_bound}
use Rattle.rp_simplex.proofs.dot.dot_product.Given as goal

abbrev pub invariant-loop-s : goal.invariant-loop-s
invariant-loop-s l = record {
  value : l.sum ≡ dot l.s l.multipliers l.column;
  bounded : unsigned_abs l.sum ≤ l.s * product_bound;
}
