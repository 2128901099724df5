use Rattle.std.specs.Prelude.{◌≡◌, ℕ, ◌<◌, ◌≤◌, slice_index_or}
use Rattle.rp_num.specs.Fraction.{Fraction}
use Rattle.rp_table.specs.Cost.{cost_at}
use Rattle.rp_walk.specs.ExactTotal.{IsLess}
use Rattle.rp_walk.specs.Products.{FitsFraction, as_total, products}
use Rattle.rp_homo.proofs.products.ProductsTotal.first_to_try.Given as goal

abbrev pub invariant-loop-to : goal.invariant-loop-to
invariant-loop-to l = record {
  not_less : (i : ℕ) (b : Fraction) → l.s ≤ i → i < l.to → b ≡ slice_index_or l.best i b → ¬ (IsLess ((products l.self.costs.now.n (cost_at l.self.costs.now)).after (as_total l.v) l.t i) (as_total b));
  fits : (i : ℕ) → l.s ≤ i → i < l.to → FitsFraction ((products l.self.costs.now.n (cost_at l.self.costs.now)).after (as_total l.v) l.t i);
}
