use Rattle.rp_panel_run.proofs.EndLemmas.{no_empty_line, no_empty_text, no_other_telling}
use Rattle.rp_panel_run.proofs.laws.not_everything_answers_or_refuses.Goals as goal

pub returns-clause-no_empty_text : goal.returns-clause-no_empty_text
returns-clause-no_empty_text c = no_empty_text

pub returns-clause-no_other_telling : goal.returns-clause-no_other_telling
returns-clause-no_other_telling c = no_other_telling

pub returns-clause-no_empty_line : goal.returns-clause-no_empty_line
returns-clause-no_empty_line c = no_empty_line
