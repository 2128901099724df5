use Rattle.rp_panel_run.proofs.SameRows.{panels_text, panels_verdicts}
use Rattle.rp_panel_run.proofs.laws.bytes_decide_the_verdicts.Goals as goal

pub returns-clause-one_text : goal.returns-clause-one_text
returns-clause-one_text c = λ a held text told other_text other none stated is also. panels_text a held text told other_text other none is also stated

pub returns-clause-one_verdict : goal.returns-clause-one_verdict
returns-clause-one_verdict c = λ a held text told other_text other none is also. panels_verdicts a held text told other_text other none is also
