use Rattle.std.proofs.Common.{◌≡◌, ◌*◌, ◌≤◌, pos, ◌*ℤ◌, get_or}
use Rattle.std.specs.Int.RustNames.{unsigned_abs}
use Rattle.rp_farkas.specs.Total.{total}
use Rattle.rp_simplex.proofs.DotLemmas.{product_bound}
use Rattle.rp_simplex.proofs.pricing.gathered_product.Given as goal

abbrev pub invariant-loop-k : goal.invariant-loop-k
invariant-loop-k l = record {
  value : l.sum ≡ total l.k (λ q. get_or l.multipliers (get_or l.places q 0) (pos 0) *ℤ get_or l.column (get_or l.places q 0) (pos 0));
  bounded : unsigned_abs l.sum ≤ l.k * product_bound;
}
