use Rattle.std.proofs.Common.{rules, ◌<◌, arith}
use Rattle.rp_menu.proofs.MenuPlaces.{few_menus}
use Rattle.rp_menu.proofs.menus.Menus.count.Goals as goal

pub overflow_cast-result : goal.overflow_cast-result
overflow_cast-result c =
    let few = few_menus _ c.self.invariant in
    let small : c.len.result < 4294967296 = omega (arith, few, c.len.ensures) in
    search rules

pub returns-clause-few : goal.returns-clause-few
returns-clause-few c = omega (arith, few_menus _ c.self.invariant, c.len.ensures)
