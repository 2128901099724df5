use Rattle.rp_simplex.proofs.CombinationLemmas.{column_small, row_elements_fit}
use Rattle.rp_simplex.proofs.stage.Stage.entry.Goals as goal

pub dot_product-requires-clause-fit : goal.dot_product-requires-clause-fit
dot_product-requires-clause-fit c = row_elements_fit c.args.self.now c.args.i c.row.result.now c.row.ensures.row c.row.ensures.length c.requires.row

pub dot_product-requires-clause-small : goal.dot_product-requires-clause-small
dot_product-requires-clause-small c = column_small c.args.self.now c.args.j c.row-2.result.now c.row-2.ensures.row c.requires.column
