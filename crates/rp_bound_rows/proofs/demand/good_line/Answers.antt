use Rattle.rp_table.specs.Tables.{goods_of}
use Rattle.rp_bound_rows.proofs.LineLemmas.{goods_past}
use Rattle.rp_bound_rows.proofs.demand.good_line.Goals as goal

pub good_sides-requires-clause-good : goal.good_sides-requires-clause-good
good_sides-requires-clause-good c = goods_past (goods_of c.args.table.now) c.args.g c.args.part.now c.requires.one_each c.requires.good
