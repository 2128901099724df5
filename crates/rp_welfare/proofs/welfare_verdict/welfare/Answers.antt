use Rattle.std.proofs.Common.{List, ℕ, slice_index, sym, subst, ◌∙◌}
use Rattle.rp_evidence.specs.Garp.{IsViolationAt}
use Rattle.rp_evidence.specs.Input.{TableInput, input_of_table}
use Rattle.rp_evidence.specs.BoundEvidence.{NoneWorthMore}
use Rattle.rp_evidence.specs.declared.certificate.Item.TheVariants.{Welfare}
use Rattle.rp_evidence.specs.declared.demand.WelfarePart.TheVariants.{Bounds, NoModel}
use Rattle.rp_garp.proofs.TestLemmas.{closes_in_table, meets_by_ranks, violates_by_cycle}
use Rattle.rp_people.proofs.FullTables.{table_is_full}
use Rattle.rp_people.proofs.SaysOfItems.{says}
use Rattle.rp_evidence.specs.LeastCost.{least_cost_program}
use Rattle.rp_evidence.proofs.AfriatModels.{model_meets_garp}
use Rattle.rp_evidence.proofs.WelfareModels.{bounds_hold}
use Rattle.rp_evidence.proofs.WelfarePrograms.{none_worth_more}
use Rattle.rp_welfare.proofs.LowerBounds.{lower_at_most}
use Rattle.rp_welfare.proofs.welfare_verdict.welfare.Goals as goal

pub first_cheapest-upper-requires-clause-closes : goal.first_cheapest-upper-requires-clause-closes
first_cheapest-upper-requires-clause-closes c =
    closes_in_table c.args.table.now c.requires.no_levels c.args.tested.now c.requires.is_test

pub lower_bound-requires-clause-sound : goal.lower_bound-requires-clause-sound
lower_bound-requires-clause-sound c =
    meets_by_ranks c.args.table.now c.requires.no_levels c.args.tested.now c.requires.is_test _ c.in-Ranks.is

pub lower_bound-requires-clause-closes : goal.lower_bound-requires-clause-closes
lower_bound-requires-clause-closes c =
    closes_in_table c.args.table.now c.requires.no_levels c.args.tested.now c.requires.is_test

pub returns-in_ok-walk-in-Cycle-clause-proves : goal.returns-in_ok-walk-in-Cycle-clause-proves
returns-in_ok-walk-in-Cycle-clause-proves c =
    let input : TableInput = input_of_table c.args.table.now in
    subst (λ (w : List ℕ). IsViolationAt input.n input.cost 1 1 w)
    (sym (c.from_vec.ensures ∙ (c.in_ok-walk-in-Cycle.ensures.items ∙ c.as_slice.ensures)))
    (violates_by_cycle c.args.table.now c.requires.no_levels c.args.tested.now c.requires.is_test _ c.in-Cycle.is)

pub returns-in_ok-lower-in-Ranks-clause-proves : goal.returns-in_ok-lower-in-Ranks-clause-proves
returns-in_ok-lower-in-Ranks-clause-proves c = (
  c.requires.prices.one_each,
  record {
    sound = meets_by_ranks c.args.table.now c.requires.no_levels c.args.tested.now c.requires.is_test _ c.in-Ranks.is;
    observed = c.requires.observed;
    upper_is = c.first_cheapest-upper.ensures.upper;
    lower_is = c.in_ok-lower-in-Ranks.ensures.proves;
  },
)

pub returns-in_ok-lower-in-Ranks-clause-given : goal.returns-in_ok-lower-in-Ranks-clause-given
returns-in_ok-lower-in-Ranks-clause-given c = record {
  sound = meets_by_ranks c.args.table.now c.requires.no_levels c.args.tested.now c.requires.is_test _ c.in-Ranks.is;
  cheapest = c.first_cheapest-upper.ensures;
  lower_is = c.in_ok-lower-in-Ranks.ensures.given;
}

pub returns-in_ok-lower-in-Ranks-clause-lower_at_most_upper : goal.returns-in_ok-lower-in-Ranks-clause-lower_at_most_upper
returns-in_ok-lower-in-Ranks-clause-lower_at_most_upper c =
    let input : TableInput = input_of_table c.args.table.now in
    lower_at_most input (slice_index c.args.prices.now) c.args.t c.first_cheapest-upper.result.at c.first_cheapest-upper.result.cost _
    (meets_by_ranks c.args.table.now c.requires.no_levels c.args.tested.now c.requires.is_test _ c.in-Ranks.is)
    c.first_cheapest-upper.ensures.upper c.in_ok-lower-in-Ranks.ensures.proves

pub returns-in_ok-walk-in-Cycle-clause-in_every_model : goal.returns-in_ok-walk-in-Cycle-clause-in_every_model
returns-in_ok-walk-in-Cycle-clause-in_every_model c = λ utility multiplier model.
    let input : TableInput = input_of_table c.args.table.now in
    model_meets_garp input.n input.cost utility multiplier model _
    (violates_by_cycle c.args.table.now c.requires.no_levels c.args.tested.now c.requires.is_test _ c.in-Cycle.is)

pub returns-in_ok-lower-in-Ranks-clause-in_every_model : goal.returns-in_ok-lower-in-Ranks-clause-in_every_model
returns-in_ok-lower-in-Ranks-clause-in_every_model c = λ utility multiplier model.
    bounds_hold (input_of_table c.args.table.now) utility multiplier model (slice_index c.args.prices.now) c.args.t
    c.first_cheapest-upper.result.cost c.first_cheapest-upper.result.at c.in_ok-lower-in-Ranks.lower
    (returns-in_ok-lower-in-Ranks-clause-proves c).1

pub returns-in_ok-lower-in-Ranks-clause-bounded : goal.returns-in_ok-lower-in-Ranks-clause-bounded
returns-in_ok-lower-in-Ranks-clause-bounded c = λ reached lists.
    let input : TableInput = input_of_table c.args.table.now in
    let upper = c.first_cheapest-upper.ensures.upper in
    subst (λ (k : ℕ). NoneWorthMore (least_cost_program input (slice_index c.args.prices.now) reached) k) upper.costs
    (none_worth_more input (slice_index c.args.prices.now) c.args.t reached lists
    (meets_by_ranks c.args.table.now c.requires.no_levels c.args.tested.now c.requires.is_test _ c.in-Ranks.is)
    c.first_cheapest-upper.result.at upper.leads)

pub returns-in_ok-walk-in-Cycle-clause-says : goal.returns-in_ok-walk-in-Cycle-clause-says
returns-in_ok-walk-in-Cycle-clause-says c =
    says (input_of_table c.args.table.now) (table_is_full c.args.table.now c.requires.is_test.valid) (Welfare c.args.prices.now c.args.t (NoModel c.from_vec.result)) (returns-in_ok-walk-in-Cycle-clause-proves c)

pub returns-in_ok-lower-in-Ranks-clause-says : goal.returns-in_ok-lower-in-Ranks-clause-says
returns-in_ok-lower-in-Ranks-clause-says c =
    says (input_of_table c.args.table.now) (table_is_full c.args.table.now c.requires.is_test.valid) (Welfare c.args.prices.now c.args.t (Bounds c.first_cheapest-upper.result.cost c.first_cheapest-upper.result.at c.in_ok-lower-in-Ranks.lower)) (returns-in_ok-lower-in-Ranks-clause-proves c)
