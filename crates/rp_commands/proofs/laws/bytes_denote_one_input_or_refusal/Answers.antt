use Rattle.rp_patch.proofs.Determined.{same_list}
use Rattle.rp_types.proofs.Determined.{types_once}
use Rattle.rp_commands.proofs.OneAnswer.{denotes_one}
use Rattle.rp_commands.proofs.SomeAnswer.{denotes_some, denotes_with_certificate}
use Rattle.rp_commands.proofs.laws.bytes_denote_one_input_or_refusal.Goals as goal

pub returns-clause-at_most_one : goal.returns-clause-at_most_one
returns-clause-at_most_one c = denotes_one same_list types_once

pub returns-clause-numbers_denote_one : goal.returns-clause-numbers_denote_one
returns-clause-numbers_denote_one c = denotes_some

pub returns-clause-certificates_never_denote_nothing : goal.returns-clause-certificates_never_denote_nothing
returns-clause-certificates_never_denote_nothing c = denotes_with_certificate
