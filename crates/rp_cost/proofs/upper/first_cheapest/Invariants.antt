use Rattle.std.proofs.Common.{slice_index}
use Rattle.rp_evidence.specs.Input.{input_of_table}
use Rattle.rp_cost.specs.InnerCheapest.{BestBelow}
use Rattle.rp_cost.proofs.upper.first_cheapest.Given as goal

abbrev pub invariant-loop-s : goal.invariant-loop-s
invariant-loop-s l =
    BestBelow (input_of_table l.question.tech.now.table) (slice_index l.question.tech.now.y) l.question.y (slice_index l.question.prices.now) l.s l.best
