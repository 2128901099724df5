use Rattle.std.proofs.Common.{◌≡◌, length}
use Rattle.rp_generated.specs.InnerLight.{AreSets}
use Rattle.rp_generated.proofs.compatible.Compatible.make.Given as goal

abbrev pub invariant-loop-i : goal.invariant-loop-i
invariant-loop-i l = record {
  sets : AreSets l.patches 0 l.sets.items;
  many : length l.sets.items ≡ l.i;
}
