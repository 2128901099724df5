use Rattle.rp_check_levels.proofs.Floors.{pow_one}
use Rattle.rp_fit_report.proofs.mean.to_power.Goals as goal

pub returns-in-Mean-clause-value : goal.returns-in-Mean-clause-value
returns-in-Mean-clause-value c = rw (c.in-Mean.is, pow_one c.args.number) c.from-number.ensures
