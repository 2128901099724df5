use Rattle.std.proofs.Common.{rules, refl}
use Rattle.std.specs.Prelude.{pos}
use Rattle.rp_pump.proofs.total.PumpTotalTotal.start.Goals as goal

pub returns-clause-fits : goal.returns-clause-fits
returns-clause-fits c = (pos 0, search rules, refl)
