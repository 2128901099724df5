use Rattle.std.proofs.Common.{◌≡◌, length}
use Rattle.rp_generated.specs.InnerLight.{AreListedFrom}
use Rattle.rp_generated.proofs.prices.Prices.make.Given as goal

abbrev pub invariant-loop-j : goal.invariant-loop-j
invariant-loop-j l = record {
  listed : AreListedFrom l.patches l.prices.items 0 l.on_budget.items;
  many : length l.on_budget.items ≡ l.j;
}
