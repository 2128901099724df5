use Rattle.rp_producers.proofs.SmallCases.{none_feasible, none_suffices}
use Rattle.rp_producers.proofs.definitions.rationalizing_sets_in_small_cases.Goals as goal

pub returns-clause-none_suffices : goal.returns-clause-none_suffices
returns-clause-none_suffices c = none_suffices

pub returns-clause-none_feasible : goal.returns-clause-none_feasible
returns-clause-none_feasible c = none_feasible
