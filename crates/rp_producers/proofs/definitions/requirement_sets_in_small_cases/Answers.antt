use Rattle.rp_producers.proofs.SmallCases.{by_value, either_not_convex, either_suffice, halves, more_of_one}
use Rattle.rp_producers.proofs.SmallCases.{one_not_disposable, output_not_nested, sums_convex, sums_suffice}
use Rattle.rp_producers.proofs.definitions.requirement_sets_in_small_cases.Goals as goal

pub returns-clause-by_value : goal.returns-clause-by_value
returns-clause-by_value g c goods output = by_value goods output g.S.InputSets.has

pub returns-clause-more_of_one : goal.returns-clause-more_of_one
returns-clause-more_of_one g c = more_of_one g.S.InputSets.has

pub returns-clause-halves : goal.returns-clause-halves
returns-clause-halves g c = halves g.S.InputSets.has

pub returns-clause-sums : goal.returns-clause-sums
returns-clause-sums g c = (sums_suffice, sums_convex)

pub returns-clause-either : goal.returns-clause-either
returns-clause-either g c = (either_suffice, either_not_convex)

pub returns-clause-not_disposable : goal.returns-clause-not_disposable
returns-clause-not_disposable g c = one_not_disposable

pub returns-clause-not_nested : goal.returns-clause-not_nested
returns-clause-not_nested g c = output_not_nested
