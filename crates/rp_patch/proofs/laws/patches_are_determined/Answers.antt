use Rattle.rp_patch.proofs.Determined.{same_list}
use Rattle.rp_patch.proofs.laws.patches_are_determined.Goals as goal

pub returns : goal.returns
returns c = λ input asked one other are_one valid_one are_other valid_other. same_list input asked one other are_one valid_one are_other valid_other
