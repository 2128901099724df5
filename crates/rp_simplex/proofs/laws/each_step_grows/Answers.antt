use Rattle.rp_simplex.proofs.Growing.{grows, positive}
use Rattle.rp_simplex.proofs.laws.each_step_grows.Goals as goal

pub returns-clause-rows_stay_positive : goal.returns-clause-rows_stay_positive
returns-clause-rows_stay_positive c = λ p k t limits reached. positive p t limits reached

pub returns-clause-objective_row_grows : goal.returns-clause-objective_row_grows
returns-clause-objective_row_grows c = λ p k t u limits reached next. grows p limits reached next
