use Rattle.std.proofs.Common.{ℕ, List, slice_index, sym, subst}
use Rattle.std.proofs.lemmas.Result.{IfOk-weaker}
use Rattle.rp_evidence.specs.Input.{TableInput, input_of_table}
use Rattle.rp_evidence.specs.Welfare.{ListsReached}
use Rattle.rp_welfare.proofs.LowerBounds.{least_proves, own_prices}
use Rattle.rp_welfare.proofs.lower.lower_bound.Goals as goal

pub bound_over-requires-clause-prices : goal.bound_over-requires-clause-prices
bound_over-requires-clause-prices c =
    let a = c.args in
    let input : TableInput = input_of_table a.new.now.table.now in
    let lists = subst (λ (xs : List ℕ). ListsReached input a.t xs) (sym c.deref.ensures.value) c.in_ok-reached.ensures.listed in
    own_prices input (slice_index a.new.now.prices.now) a.t c.deref.result.now lists c.requires.observed c.requires.sound

pub returns-clause-proves : goal.returns-clause-proves
returns-clause-proves c =
    let a = c.args in
    let input : TableInput = input_of_table a.new.now.table.now in
    let lists = subst (λ (xs : List ℕ). ListsReached input a.t xs) (sym c.deref.ensures.value) c.in_ok-reached.ensures.listed in
    IfOk-weaker c.bound_over.result _ _ (λ bound is. least_proves input (slice_index a.new.now.prices.now) a.t c.deref.result.now lists bound is) c.bound_over.ensures.least

pub returns-clause-given : goal.returns-clause-given
returns-clause-given c =
    let a = c.args in
    let input : TableInput = input_of_table a.new.now.table.now in
    let lists = subst (λ (xs : List ℕ). ListsReached input a.t xs) (sym c.deref.ensures.value) c.in_ok-reached.ensures.listed in
    IfOk-weaker c.bound_over.result _ _ (λ bound is. record { reached = c.deref.result.now; listed = lists; is_bound = is }) c.bound_over.ensures.bound
