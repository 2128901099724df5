use Rattle.std.proofs.Common.{◌≡◌, ◌≤◌}
use Rattle.std.specs.List.{All}
use Rattle.rp_num.specs.Below.{listed}
use Rattle.rp_power.specs.DrawnTable.{bought_of}
use Rattle.rp_power.proofs.behaviour.draw_bundle.Given as goal

abbrev pub invariant-loop-g : goal.invariant-loop-g
invariant-loop-g l = record {
  drawn : l.bundle.items ≡ listed l.g (bought_of l.table l.words l.t);
  within : All (λ quantity. quantity ≤ 9999999) l.bundle.items;
}
