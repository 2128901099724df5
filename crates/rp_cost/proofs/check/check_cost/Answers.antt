use Rattle.std.proofs.Common.{slice_index}
use Rattle.rp_evidence.specs.Input.{input_of_table}
use Rattle.rp_cost.proofs.OuterLaws.{holds_proves}
use Rattle.rp_cost.proofs.check.check_cost.Goals as goal

pub returns-then-upper_holds-clause-proves : goal.returns-then-upper_holds-clause-proves
returns-then-upper_holds-clause-proves c = λ holds. record {
  upper = c.upper_holds.ensures.0 c.if-upper_holds.true;
  lower = holds_proves (input_of_table c.args.tech.now.table) (slice_index c.args.tech.now.y) c.args.y (slice_index c.args.prices.now) c.args.bounds.now.lower (c.lower_holds.ensures.0 holds);
}
