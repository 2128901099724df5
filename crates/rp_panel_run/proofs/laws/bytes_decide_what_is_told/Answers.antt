use Rattle.rp_panel_run.proofs.EndLemmas.{one_line, one_telling, text_refused}
use Rattle.rp_panel_run.proofs.laws.bytes_decide_what_is_told.Goals as goal

pub returns-clause-never_both : goal.returns-clause-never_both
returns-clause-never_both c = text_refused

pub returns-clause-one_telling : goal.returns-clause-one_telling
returns-clause-one_telling c = one_telling

pub returns-clause-one_line : goal.returns-clause-one_line
returns-clause-one_line c = one_line
