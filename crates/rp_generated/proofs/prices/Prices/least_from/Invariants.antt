use Rattle.std.proofs.Common.{◌≤◌, ◌*◌, ◌^◌}
use Rattle.rp_patch.specs.Patches.{PatchList}
use Rattle.rp_generated.specs.InnerLight.{AreListed, IsLeastTo}
use Rattle.rp_generated.proofs.prices.Prices.least_from.Given as goal

abbrev pub invariant-loop-j : goal.invariant-loop-j
invariant-loop-j l = record {
  small : l.least ≤ l.j * 2 ^ 64;
  least : (p : PatchList) → AreListed p l.self → l.first ≤ p.budgets → IsLeastTo p l.self.prices.items l.first l.set.words l.least l.j;
}
