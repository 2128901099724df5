use Rattle.rp_evidence.specs.InnerBudget.{input_of, new_budget}
use Rattle.rp_check.proofs.MarkedSets.{marks_below, marks_strictly}
use Rattle.rp_check.proofs.sets.Sets.of.Goals as goal

pub mark_strict_starts-requires-clause-below : goal.mark_strict_starts-requires-clause-below
mark_strict_starts-requires-clause-below c =
    marks_below (input_of c.args.budget.now.at) (new_budget c.args.budget.now) c.mark_bought.new.marks c.spread.new.marks c.mark_bought.ensures c.spread.ensures

pub returns : goal.returns
returns c = record {
  below = marks_below (input_of c.args.budget.now.at) (new_budget c.args.budget.now) c.mark_bought.new.marks c.spread.new.marks c.mark_bought.ensures c.spread.ensures;
  strict = marks_strictly (input_of c.args.budget.now.at) (new_budget c.args.budget.now) c.mark_strict_starts.new.marks c.spread-2.new.marks c.mark_strict_starts.ensures c.spread-2.ensures;
}
