use Rattle.std.proofs.Common.{◌≡◌, ◌≤◌}
use Rattle.rp_patch.specs.Types.{combinations}
use Rattle.rp_types.proofs.combinations.test_combinations.Given as goal

abbrev pub invariant-loop-j : goal.invariant-loop-j
invariant-loop-j l = record {
  so_far : l.product ≡ combinations l.patches l.j;
  few : l.product ≤ 1048576;
}
