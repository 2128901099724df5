use Rattle.std.proofs.Common.{◌≡◌, ◌==◌, ap, if◌then◌else◌, length, sym, ◌∙◌}
use Rattle.std.proofs.lemmas.Bool.{ne_eqb}
use Rattle.rp_table.specs.Sums.{sum_below}
use Rattle.rp_orders.specs.MenuSums.{size_of}
use Rattle.rp_orders.specs.OrderMixtures.{menu_at, units_of}
use Rattle.rp_orders.proofs.SumLemmas.{units_at_place}
use Rattle.rp_orders.proofs.sums.units_on.Goals as goal

pub returns-clause-exact : goal.returns-clause-exact
returns-clause-exact c =
    let list = c.args.seen.now in
    let units = c.args.units.now in
    let size : c.size_of.result ≡ size_of list.letters c.args.menu = c.size_of.ensures.exact ∙ ap (λ k. size_of k c.args.menu) c.letters.ensures.exact in
    let on_menus = sum_below (length list.menus) (λ i. if menu_at list i == c.args.menu then units_of list units i c.args.x else 0) in
    c.units_of.ensures.exact
    ∙ units_at_place list c.letters.ensures.valid units c.requires.are c.args.menu c.args.x c.place_of.result c.place_of.ensures.exact
    ∙ sym (ap (λ b. if b then units.total else on_menus) (ne_eqb (size_of list.letters c.args.menu) 1 (λ e. c.if-size_of-eq1.false (size ∙ e))))
