use Rattle.std.proofs.Common.{arith, subst, sym}
use Rattle.std.proofs.lemmas.List.{length-map}
use Rattle.rp_farkas.specs.Limits.{IsWithinLimits}
use Rattle.rp_menu.specs.MenuLists.{MenuList}
use Rattle.rp_orders.specs.InnerOrders.{orders_of}
use Rattle.rp_orders.specs.OrderKinds.{orders_over}
use Rattle.rp_orders.specs.declared.orders.Order.{Order}
use Rattle.rp_orders.proofs.OrderCells.{within_limits}
use Rattle.rp_patch.specs.Kinds.{mixture_program}
use Rattle.rp_patch.specs.declared.apportionment.Units.{Units}
use Rattle.rp_orders.proofs.listed.ListedOrders.make.Goals as goal

pub invariant_of-result : goal.invariant_of-result
invariant_of-result c =
    let list = c.args.seen.now in
    let orders = orders_of c.args.orders.now in
    record {
      within = subst (λ (m : MenuList). IsWithinLimits (mixture_program (orders_over m c.make.result.units.now) orders)) (sym c.make.ensures.seen)
          (subst (λ (u : Units). IsWithinLimits (mixture_program (orders_over list u) orders)) (sym c.make.ensures.units)
          (within_limits list c.letters.ensures.valid c.args.units.now c.requires.units orders
          (omega (arith, c.requires.few, length-map c.args.orders.now (λ (order : Order). order.letters)))));
    }
