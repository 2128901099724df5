use Rattle.std.proofs.Common.{subst, sym}
use Rattle.rp_table.specs.Tables.{IsTable}
use Rattle.rp_power.proofs.DrawnLemmas.{drawn_is, drawn_is_table}
use Rattle.rp_power.proofs.behaviour.drawn.Goals as goal

pub make-requires-clause-table : goal.make-requires-clause-table
make-requires-clause-table c =
    let table = c.args.table.now in
    subst IsTable (sym (drawn_is table c.args.words.now c.in_ok-names.names.items c.in_ok-prices.prices.items c.draw_quantities.new.quantities.items c.price_places.result c.quantity_places.result c.in_ok-names.ensures c.in_ok-prices.ensures c.in_ok-draw_quantities.ensures c.price_places.ensures c.quantity_places.ensures))
    (drawn_is_table table c.args.words.now c.n.ensures.valid)
