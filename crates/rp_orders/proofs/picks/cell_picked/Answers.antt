use Rattle.std.proofs.Common.{arith}
use Rattle.rp_orders.proofs.OrderCells.{menu_small}
use Rattle.rp_orders.proofs.picks.cell_picked.Goals as goal

pub pick-requires : goal.pick-requires
pick-requires c = let small = menu_small c.args.seen.now c.letters.ensures.valid c.args.i c.requires in omega (arith, small, c.menu.ensures)
