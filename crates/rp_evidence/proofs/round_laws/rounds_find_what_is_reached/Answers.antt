use Rattle.std.proofs.Common.{arith}
use Rattle.rp_evidence.proofs.Throughs.{reaches_from_through, through_from_reaches}
use Rattle.rp_evidence.proofs.round_laws.rounds_find_what_is_reached.Goals as goal

pub returns : goal.returns
returns g c = λ n s t s_in t_in.
    (reaches_from_through n g.R.Relation.step n s t (omega arith) s_in t_in, through_from_reaches n g.R.Relation.step s t)
