use Rattle.std.specs.Prelude.{codes}
use Rattle.std.specs.Fmt.{decimal}
use Rattle.rp_table.specs.Tables.{goods_of, records_of}
use Rattle.rp_print.proofs.Texts.{four_numbers}
use Rattle.rp_cost.proofs.report.push_head.Goals as goal

pub returns : goal.returns
returns c =
    rw (c.in_ok-push.ensures.items, c.in_ok-push_after-4.ensures, c.in_ok-push_after-3.ensures, c.in_ok-push_after-2.ensures, c.in_ok-push_after.ensures, c.from-2.ensures, c.quantity_places.ensures, c.from.ensures, c.price_places.ensures, c.inputs.ensures.count, c.count.ensures.count)
    (four_numbers c.args.out.now.items (codes "technology records ") (decimal (records_of c.args.tech.now.table)) (codes " inputs ") (decimal (goods_of c.args.tech.now.table)) (codes " places ") (decimal c.args.tech.now.table.price_places) (codes " ") (decimal c.args.tech.now.table.quantity_places))
