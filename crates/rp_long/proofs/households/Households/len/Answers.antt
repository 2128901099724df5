use Rattle.std.proofs.Common.{◌∙◌}
use Rattle.rp_long.proofs.PanelLemmas.{count}
use Rattle.rp_long.proofs.households.Households.len.Goals as goal

pub returns : goal.returns
returns c = c.len.ensures ∙ count c.self.inside.columns c.self.inside.records.now c.self.inside.groups c.args.self.now c.self.invariant.1 c.self.view_is
