use Rattle.rp_bounds_panel.proofs.SameBounds.{one_text}
use Rattle.rp_bounds_panel.proofs.laws.panels_decide_the_bounds.Goals as goal

pub returns : goal.returns
returns c = record { stated = one_text }
