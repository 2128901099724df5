use Rattle.std.proofs.Common.{arith}
use Rattle.rp_simplex.proofs.CombinationLemmas.{row_elements_fit}
use Rattle.rp_simplex.proofs.pricing.first_negative.Goals as goal

pub gather-count-requires-clause-fit : goal.gather-count-requires-clause-fit
gather-count-requires-clause-fit c = row_elements_fit c.args.t.now c.args.t.now.rows c.row-multipliers.result.now c.row-multipliers.ensures.row c.row-multipliers.ensures.length (omega arith)

pub gathered_product-requires-clause-fit : goal.gathered_product-requires-clause-fit
gathered_product-requires-clause-fit c = row_elements_fit c.args.t.now c.args.t.now.rows c.row-multipliers.result.now c.row-multipliers.ensures.row c.row-multipliers.ensures.length (omega arith)
