use Rattle.std.proofs.Common.{refl}
use Rattle.rp_producers.proofs.SmallCases.{feasible_by_value, halfway, less_output, output_not_disposable, sums_feasible}
use Rattle.rp_producers.proofs.definitions.production_sets_in_small_cases.Goals as goal

pub returns-clause-less_output : goal.returns-clause-less_output
returns-clause-less_output g c goods low high = less_output goods low high g.S.InputSets.has

pub returns-clause-by_value : goal.returns-clause-by_value
returns-clause-by_value g c goods output = feasible_by_value goods output g.S.InputSets.has

pub returns-clause-halfway : goal.returns-clause-halfway
returns-clause-halfway g c = halfway g.S.InputSets.has

pub returns-clause-sums : goal.returns-clause-sums
returns-clause-sums g c = sums_feasible

pub returns-clause-not_disposable : goal.returns-clause-not_disposable
returns-clause-not_disposable g c = output_not_disposable

pub returns-clause-profit : goal.returns-clause-profit
returns-clause-profit g c = refl
