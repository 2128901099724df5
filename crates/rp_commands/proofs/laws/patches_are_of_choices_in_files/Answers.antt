use Rattle.rp_commands.proofs.ChosenInFiles.{behind_patches, behind_patches_with_certificate}
use Rattle.rp_commands.proofs.laws.patches_are_of_choices_in_files.Goals as goal

pub returns-clause-choices : goal.returns-clause-choices
returns-clause-choices c = behind_patches

pub returns-clause-with_certificate : goal.returns-clause-with_certificate
returns-clause-with_certificate c = behind_patches_with_certificate
