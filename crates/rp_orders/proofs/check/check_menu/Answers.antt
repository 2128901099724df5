use Rattle.std.proofs.Common.{◌∙◌, sym, subst}
use Rattle.rp_menu.specs.MenuLists.{MenuList}
use Rattle.rp_orders.specs.OrderKinds.{orders_over}
use Rattle.rp_orders.proofs.CheckLemmas.{is_passed, passes, sound}
use Rattle.rp_orders.proofs.OrderCells.{are_whole}
use Rattle.rp_orders.proofs.OrderWeights.{proves_menus}
use Rattle.rp_patch.specs.KindFailure.{EvidenceFailsOf}
use Rattle.rp_patch.specs.declared.apportionment.Units.{Units}
use Rattle.rp_orders.proofs.check.check_menu.Goals as goal

pub returns-clause-exact : goal.returns-clause-exact
returns-clause-exact c =
    let list = c.args.seen.now in
    let units = c.args.units.now in
    let k = orders_over list units in
    let part = c.args.part.now in
    let r = c.check_evidence.result in
    let found = subst (λ (u : Units). EvidenceFailsOf (orders_over list u) part r) c.make.ensures.units
    (subst (λ (m : MenuList). EvidenceFailsOf (orders_over m c.make.result.units.now) part r) c.make.ensures.seen c.check_evidence.ensures) in
    (λ h. passes k part r found (sym c.is_ok.ensures.value ∙ h), λ holds. c.is_ok.ensures.value ∙ is_passed k part r found holds)

pub returns-clause-proves : goal.returns-clause-proves
returns-clause-proves c h =
    let list = c.args.seen.now in
    let units = c.args.units.now in
    let k = orders_over list units in
    let part = c.args.part.now in
    let r = c.check_evidence.result in
    let found = subst (λ (u : Units). EvidenceFailsOf (orders_over list u) part r) c.make.ensures.units
    (subst (λ (m : MenuList). EvidenceFailsOf (orders_over m c.make.result.units.now) part r) c.make.ensures.seen c.check_evidence.ensures) in
    let is = c.letters.ensures.valid in
    proves_menus list is units c.requires part (sound k (are_whole list is units c.requires) part (passes k part r found (sym c.is_ok.ensures.value ∙ h)))
