use Rattle.std.proofs.Common.{List, subst, ◌∙◌}
use Rattle.rp_cost.specs.declared.bounds.CostBounds.{CostBounds}
use Rattle.rp_filled.specs.FilledCosts.{AreFilledBounds}
use Rattle.rp_run_wide.proofs.FillingLemmas.{given_costs}
use Rattle.rp_run_wide.proofs.edition.FilledEdition.print_costs.Goals as goal

pub fill_costs-requires-clause-given : goal.fill_costs-requires-clause-given
fill_costs-requires-clause-given c = λ meets.
    given_costs c.args.tech.now c.args.asked.now c.args.bounds c.into_vec.result.items c.into_vec.ensures (c.requires.bounded.of_each meets)

pub fill_costs-requires-clause-none : goal.fill_costs-requires-clause-none
fill_costs-requires-clause-none c = λ not. c.into_vec.ensures ∙ c.requires.bounded.none not

pub returns : goal.returns
returns c =
    let filled = subst (λ (list : List CostBounds). AreFilledBounds c.args.tech.now c.args.asked.now list c.in_ok-filled.filled.items) c.into_vec.ensures c.in_ok-filled.ensures in
    (c.in_ok-filled.filled.items, filled, rw c.from_vec-filled.ensures at c.in_ok-text.ensures)
