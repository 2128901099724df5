use Rattle.std.proofs.Common.{List, ℕ, IfOk, ap, subst, sym, ◌∙◌}
use Rattle.std.proofs.lemmas.Result.{IfOk-weaker}
use Rattle.rp_find_mixture.specs.MixtureVerdict.{IsRunVerdict, ProvesMixture}
use Rattle.rp_menu.specs.MenuLists.{MenuList}
use Rattle.rp_orders.specs.InnerOrders.{orders_of}
use Rattle.rp_orders.specs.MenuEvidence.{IsMenuVerdict, ProvesMenus, ShowsSums}
use Rattle.rp_orders.specs.OrderKinds.{orders_over}
use Rattle.rp_orders.proofs.MixtureSums.{shows_sums}
use Rattle.rp_orders.proofs.OrderCells.{are_whole}
use Rattle.rp_orders.proofs.OrderWeights.{proves_menus}
use Rattle.rp_patch.specs.Kinds.{AreWhole}
use Rattle.rp_patch.specs.declared.apportionment.Units.{Units}
use Rattle.rp_orders.proofs.menus_verdict.menus.Goals as goal

pub mixture-requires-clause-whole : goal.mixture-requires-clause-whole
mixture-requires-clause-whole c =
    let list = c.args.seen.now in
    let units = c.args.units.now in
    subst (λ (m : MenuList). AreWhole (orders_over m c.make.result.over.units.now)) (sym c.make.ensures.seen)
    (subst (λ (u : Units). AreWhole (orders_over list u)) (sym c.make.ensures.units) (are_whole list c.letters.ensures.valid units c.requires))

pub returns-clause-proves : goal.returns-clause-proves
returns-clause-proves c =
    let list = c.args.seen.now in
    let units = c.args.units.now in
    let r = c.mixture.result in
    let proves = subst (λ (u : Units). IfOk r (ProvesMixture (orders_over list u))) c.make.ensures.units
    (subst (λ (m : MenuList). IfOk r (ProvesMixture (orders_over m c.make.result.over.units.now))) c.make.ensures.seen c.mixture.ensures.proves) in
    IfOk-weaker r (ProvesMixture (orders_over list units)) (ProvesMenus list units)
    (λ part h. proves_menus list c.letters.ensures.valid units c.requires part h) proves

pub returns-clause-run : goal.returns-clause-run
returns-clause-run c =
    let list = c.args.seen.now in
    let units = c.args.units.now in
    let r = c.mixture.result in
    let orders = orders_of c.in_ok-orders.orders.items in
    let are = ap orders_of (c.make.ensures.orders ∙ c.as_slice.ensures.value) in
    let run = subst (λ (os : List (List ℕ)). IfOk r (IsRunVerdict (orders_over list units) os)) are
    (subst (λ (u : Units). IfOk r (IsRunVerdict (orders_over list u) (orders_of c.make.result.orders.now))) c.make.ensures.units
    (subst (λ (m : MenuList). IfOk r (IsRunVerdict (orders_over m c.make.result.over.units.now) (orders_of c.make.result.orders.now))) c.make.ensures.seen c.mixture.ensures.run)) in
    IfOk-weaker r (IsRunVerdict (orders_over list units) orders) (IsMenuVerdict list units)
    (λ part h. (orders, c.in_ok-orders.ensures.all, h)) run

pub returns-clause-sums : goal.returns-clause-sums
returns-clause-sums c =
    let list = c.args.seen.now in
    let units = c.args.units.now in
    let r = c.mixture.result in
    let proves = subst (λ (u : Units). IfOk r (ProvesMixture (orders_over list u))) c.make.ensures.units
    (subst (λ (m : MenuList). IfOk r (ProvesMixture (orders_over m c.make.result.over.units.now))) c.make.ensures.seen c.mixture.ensures.proves) in
    let is = c.letters.ensures.valid in
    IfOk-weaker r (ProvesMixture (orders_over list units)) (ShowsSums list units)
    (λ part h. shows_sums list is units c.requires part) proves
