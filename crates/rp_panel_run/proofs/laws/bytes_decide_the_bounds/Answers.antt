use Rattle.rp_panel_run.proofs.SameBounds.{any_bounds, stated_bounds}
use Rattle.rp_panel_run.proofs.laws.bytes_decide_the_bounds.Goals as goal

pub returns-clause-one_text : goal.returns-clause-one_text
returns-clause-one_text c = λ a held asked text told other_text other asks stated is also. stated_bounds a held asked text told other_text other asks is also stated

pub returns-clause-one_bound : goal.returns-clause-one_bound
returns-clause-one_bound c = λ a held asked text told other_text other asks is also. any_bounds a held asked text told other_text other asks is also
