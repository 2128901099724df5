use Rattle.std.proofs.Common.{◌≡◌, ◌<◌, ℕ, slice_index, sym, subst, ◌∙◌, arith}
use Rattle.std.proofs.lemmas.Bool.{false≢true}
use Rattle.rp_evidence.specs.Input.{TableInput, input_of_table}
use Rattle.rp_welfare.specs.InnerCheapest.{IsCheapestBelow}
use Rattle.rp_welfare.proofs.Cheapest.{cheapest_changes, cheapest_of_all, cheapest_skips, cheapest_stays, starts_with_own}
use Rattle.rp_evidence.proofs.EqualOrReached.{starts_in}
use Rattle.rp_welfare.proofs.upper.first_cheapest.Goals as goal
use Rattle.rp_welfare.proofs.upper.first_cheapest.Goals.{then-equals_or_reaches+then-is_before, then-equals_or_reaches+else-is_before, else-equals_or_reaches}

pub loop-s-init : goal.loop-s-init
loop-s-init c =
    let a = c.args in
    starts_with_own (input_of_table a.new.now.table.now) (slice_index a.new.now.prices.now) a.t c.priced-best.result.at c.priced-best.result.cost
    c.requires.observed c.priced-best.ensures.at c.priced-best.ensures.exact

pub loop-s-preserved : goal.loop-s-preserved
loop-s-preserved c =
    let a = c.args in
    let l = c.loop-s in
    let input : TableInput = input_of_table a.new.now.table.now in
    let below : l.s < input.n = omega (arith, c.loop-s-test.true, c.n-s-end.ensures.count) in
    let joins = c.equals_or_reaches.ensures.by_weak_steps input c.requires.closes in
    let so_far : IsCheapestBelow input (slice_index a.new.now.prices.now) a.t l.s l.best.at l.best.cost = l.invariant in
    elim c.if-equals_or_reaches.branch [
      | then-equals_or_reaches+then-is_before w ↦
          rw w.best-is (cheapest_changes input (slice_index a.new.now.prices.now) a.t l.s l.best.at l.best.cost so_far w.priced-other.result.at w.priced-other.result.cost below
          (joins.0 w.if-equals_or_reaches.true) w.priced-other.ensures.at w.priced-other.ensures.exact (w.is_before.ensures.0 w.if-is_before.true))
      | then-equals_or_reaches+else-is_before w ↦
          rw w.best-is (cheapest_stays input (slice_index a.new.now.prices.now) a.t l.s l.best.at l.best.cost so_far w.priced-other.result.cost w.priced-other.ensures.exact
          (λ h. false≢true (sym w.if-is_before.false ∙ w.is_before.ensures.1 (rw w.priced-other.ensures.at h))))
      | else-equals_or_reaches w ↦
          rw w.best-is (cheapest_skips input (slice_index a.new.now.prices.now) a.t l.s l.best.at l.best.cost so_far
          (λ h. false≢true (sym w.if-equals_or_reaches.false ∙ joins.1 h)))
    ]

pub returns : goal.returns
returns c =
    let a = c.args in
    let l = c.loop-s in
    let input : TableInput = input_of_table a.new.now.table.now in
    let end : l.s ≡ input.n = omega (arith, c.loop-s-test.false, l.auto.s-end, c.n-s-end.ensures.count) in
    cheapest_of_all input (slice_index a.new.now.prices.now) a.t l.best.at l.best.cost (λ r k. starts_in input r a.t k)
    (subst (λ (n : ℕ). IsCheapestBelow input (slice_index a.new.now.prices.now) a.t n l.best.at l.best.cost) end l.invariant)
