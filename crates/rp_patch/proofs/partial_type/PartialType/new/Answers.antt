use Rattle.std.proofs.Common.{refl}
use Rattle.rp_patch.proofs.PartialTypeLaws.{nothing_taken}
use Rattle.rp_patch.proofs.partial_type.PartialType.new.Goals as goal

pub returns-clause-part : goal.returns-clause-part
returns-clause-part c = nothing_taken c.args.patches.now _ refl
