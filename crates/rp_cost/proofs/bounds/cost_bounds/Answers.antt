use Rattle.std.proofs.Common.{slice_index, arith}
use Rattle.rp_evidence.specs.Input.{input_of_table}
use Rattle.rp_cost.proofs.AtMost.{lower_at_most, made_in_outer_set}
use Rattle.rp_cost.proofs.NothingBelow.{nothing_shown}
use Rattle.rp_cost.proofs.ProducerBounds.{bound_producers}
use Rattle.rp_cost.proofs.bounds.cost_bounds.Goals as goal

pub returns-clause-made_is_outer : goal.returns-clause-made_is_outer
returns-clause-made_is_outer c =
    made_in_outer_set (input_of_table c.args.tech.now.table) (slice_index c.args.tech.now.y) c.args.y c.requires.minimises

pub returns-clause-lower_at_most_upper : goal.returns-clause-lower_at_most_upper
returns-clause-lower_at_most_upper c =
    lower_at_most (input_of_table c.args.tech.now.table) (slice_index c.args.tech.now.y) c.args.y c.requires.minimises (slice_index c.args.prices.now)
    c.in_ok-lower.lower c.first_cheapest-upper.result c.in_ok-lower.ensures.proves c.first_cheapest-upper.ensures

pub returns-clause-nothing_below : goal.returns-clause-nothing_below
returns-clause-nothing_below c = λ more.
    nothing_shown (input_of_table c.args.tech.now.table) (slice_index c.args.tech.now.y) c.args.y (slice_index c.args.prices.now) more
    (λ i l. (c.requires.prices.fit i 0 (omega (arith, l, c.requires.prices.one_each))).1) c.in_ok-lower.lower c.in_ok-lower.ensures.given

pub returns-clause-producers : goal.returns-clause-producers
returns-clause-producers c =
    bound_producers (input_of_table c.args.tech.now.table) (slice_index c.args.tech.now.y) c.args.y (slice_index c.args.prices.now)
    c.in_ok-lower.lower c.first_cheapest-upper.result c.in_ok-lower.ensures.proves c.first_cheapest-upper.ensures
