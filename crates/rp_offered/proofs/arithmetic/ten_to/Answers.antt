use Rattle.std.proofs.Common.{rules}
use Rattle.rp_offered.proofs.Sizes.{ten_parts}
use Rattle.rp_offered.proofs.arithmetic.ten_to.Goals as goal

pub returns-clause-positive : goal.returns-clause-positive
returns-clause-positive c = (ten_parts c.pow.result c.args.places c.requires (search rules)).0

pub returns-clause-small : goal.returns-clause-small
returns-clause-small c = (ten_parts c.pow.result c.args.places c.requires (search rules)).1
