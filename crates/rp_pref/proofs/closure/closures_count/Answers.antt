use Rattle.rp_table.specs.Cost.{cost_at}
use Rattle.rp_pref.specs.Steps.{IsStep, OwnStrict, OwnWeak, StepOf}
use Rattle.rp_pref.proofs.ClosureLemmas.{count_by_closure}
use Rattle.rp_pref.proofs.closure.closures_count.Goals as goal

pub returns-clause-of_a_relation : goal.returns-clause-of_a_relation
returns-clause-of_a_relation g c = λ reached n s k. count_by_closure reached n g.R.Relation.step s k

pub returns-clause-at_a_level : goal.returns-clause-at_a_level
returns-clause-at_a_level g c = λ reached costs steps num den s k. count_by_closure reached costs.n (IsStep steps (cost_at costs) num den) s k

pub returns-clause-by_own_levels : goal.returns-clause-by_own_levels
returns-clause-by_own_levels g c = λ reached costs steps s k. count_by_closure reached costs.n (StepOf steps (OwnWeak costs) (OwnStrict costs)) s k
