use Rattle.std.proofs.Common.{refl}
use Rattle.rp_persons.proofs.SignFacts.{scaled_signs, scaled_spent}
use Rattle.rp_persons.proofs.laws.chosen_bundles_scale.Goals as goal

pub returns-clause-spent : goal.returns-clause-spent
returns-clause-spent c input i = scaled_spent input (input.budget i) i

pub returns-clause-signs : goal.returns-clause-signs
returns-clause-signs c input i = scaled_signs input (input.budget i) i refl
