use Rattle.std.proofs.Common.{◌≤◌, ℕ}
use Prim.Native.Nat.{◌∣◌}
use Rattle.rp_patch.specs.Apportionment.{IsCommonMultiple, IsLeastCommonMultiple, grouped}
use Rattle.rp_patch.proofs.totals.common_total.Given as goal

abbrev pub invariant-loop-j : goal.invariant-loop-j
invariant-loop-j l = record {
  least : IsLeastCommonMultiple (grouped l.groups l.counts) l.j l.total;
  divides : (k : ℕ) → IsCommonMultiple (grouped l.groups l.counts) l.j k → l.total ∣ k;
  small : l.total ≤ 1000000000;
}
