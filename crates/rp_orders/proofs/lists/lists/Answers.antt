use Rattle.std.proofs.Common.{arith}
use Rattle.rp_orders.proofs.LoopLemmas.{small_power}
use Rattle.rp_orders.proofs.lists.lists.Goals as goal

pub pow-requires : goal.pow-requires
pow-requires c = let small = small_power c.args.letters c.requires.some c.requires.few in omega (arith, small)

pub returns-clause-few : goal.returns-clause-few
returns-clause-few c = let small = small_power c.args.letters c.requires.some c.requires.few in omega (arith, small, c.pow.ensures)
