use Rattle.std.proofs.Common.{◌≡◌, ◌+◌, ◌*◌, ◌%◌, ◌<◌, slice_index}
use Rattle.std.specs.List.{All}
use Rattle.rp_num.specs.Below.{listed}
use Rattle.rp_table.specs.Tables.{goods_of}
use Rattle.rp_power.proofs.shares.draw_shares.Given as goal

abbrev pub invariant-loop-g : goal.invariant-loop-g
invariant-loop-g l = record {
  drawn : l.shares.items ≡ listed l.g (λ g. slice_index l.words (l.t * goods_of l.table + g) % 100);
  within : All (λ share. share < 100) l.shares.items;
}
