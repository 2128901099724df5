use Rattle.rp_fit_report.proofs.PrintedLevels.{printed_is_most, upper_is_most}
use Rattle.rp_fit_report.proofs.laws.printed_upper_bound_holds.Goals as goal

pub returns-clause-printed : goal.returns-clause-printed
returns-clause-printed c = upper_is_most

pub returns-clause-rounded : goal.returns-clause-rounded
returns-clause-rounded c = printed_is_most
