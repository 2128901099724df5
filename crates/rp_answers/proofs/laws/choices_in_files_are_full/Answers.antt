use Rattle.rp_answers.proofs.ChosenBundles.{full_choices, full_files}
use Rattle.rp_answers.proofs.laws.choices_in_files_are_full.Goals as goal

pub returns-clause-beside : goal.returns-clause-beside
returns-clause-beside c = full_choices

pub returns-clause-files : goal.returns-clause-files
returns-clause-files c = full_files
