use Rattle.rp_fit_report.proofs.PrintedLevels.{upper_is_mean}
use Rattle.rp_fit_report.proofs.laws.printed_upper_bound_is_the_mean.Goals as goal

pub returns : goal.returns
returns c = upper_is_mean
