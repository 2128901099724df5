-- The utility of a bundle under a table's own costs and levels.
use Rattle.std.proofs.Common.{◌≡◌, ◌<◌, ◌*◌, ℕ, List, arith, slice_index, subst, sym, ◌∙◌, ap}
use Rattle.std.specs.Prelude.{ℤ, pos, ◌+ℤ◌, ◌-ℤ◌, ◌*ℤ◌, ◌≤ℤ◌}
use Rattle.rp_evidence.specs.Afriat.{IsOwnUtility, IsUtilityBy, allowed_for_by}
use Rattle.rp_evidence.specs.Demand.{FractionBundle}
use Rattle.rp_evidence.specs.Input.{input_of_table}
use Rattle.rp_evidence.specs.Preference.{AgreeBelow}
use Rattle.rp_evidence.proofs.OwnLevels.{own_same}
use Rattle.rp_people.specs.AfriatUtility.{IsUtilityOfNumbers}
use Rattle.rp_people.specs.Fractions.{AreEqual, SignedFraction}
use Rattle.rp_people.specs.TableChoices.{choices_of}
use Rattle.rp_people.proofs.Differences.{both_at_most}
use Rattle.rp_afriat.specs.Bundle.{bundle_cost}
use Rattle.rp_table.specs.Cost.{CostTable, IsCostsOf, cost_at, cost_of}
use Rattle.rp_table.specs.OwnLevels.{level_scale, own_by_level}
use Rattle.rp_table.specs.Tables.{Observations, records_of}

-- a utility depends on the costs between observations alone
utility_same : (n : ℕ) (levels : List ℕ) (c d : ℕ → ℕ → ℕ) → AgreeBelow n c d → (u : ℕ → ℤ) (m : ℕ → ℕ) (den : ℕ) (cost : ℕ → ℕ) (value : ℤ)
    → IsOwnUtility n levels c u m den cost value → IsOwnUtility n levels d u m den cost value
utility_same n levels c d same u m den cost value is = record {
  reached = (is.reached.0, is.reached.1, is.reached.2 ∙ here is.reached.0 is.reached.1);
  least = λ s s_in. subst (λ z. value ≤ℤ z) (here s s_in) (is.least s s_in);
}
  where
    here : (s : ℕ) → s < n
        → allowed_for_by (own_by_level levels c) u m den (λ s. level_scale levels * cost s) s ≡ allowed_for_by (own_by_level levels d) u m den (λ s. level_scale levels * cost s) s
    here s s_in = ap (λ k. (pos den *ℤ u s) +ℤ (pos (m s) *ℤ (pos (level_scale levels * cost s) -ℤ pos (den * k)))) (own_same n levels c d same s s_in)

pub utility_there : (costs : CostTable) (table : Observations) → IsCostsOf costs table → (u : ℕ → ℤ) (m : ℕ → ℕ) (cost : ℕ → ℕ) (value : ℤ)
    → IsOwnUtility costs.n costs.levels (cost_at costs) u m 1 cost value → IsOwnUtility (records_of table) table.levels (cost_of table) u m 1 cost value
utility_there costs table is u m cost value utility =
    let same : AgreeBelow costs.n (cost_at costs) (cost_of table) = λ s t s_in t_in. is.each s t (rw is.size at s_in) (rw is.size at t_in) in
    subst (λ (n : ℕ). IsOwnUtility n table.levels (cost_of table) u m 1 cost value) is.size
    (subst (λ (levels : List ℕ). IsOwnUtility costs.n levels (cost_of table) u m 1 cost value) is.levels
    (utility_same costs.n costs.levels (cost_at costs) (cost_of table) same u m 1 cost value utility))

-- two utilities under the same numbers are one
not_above : (n : ℕ) (own : ℕ → ℕ) (u : ℕ → ℤ) (m : ℕ → ℕ) (den : ℕ) (cost : ℕ → ℕ) (v w : ℤ) → IsUtilityBy n own u m den cost v → IsUtilityBy n own u m den cost w → v ≤ℤ w
not_above n own u m den cost v w is also = subst (λ z. v ≤ℤ z) (sym also.reached.2) (is.least also.reached.0 also.reached.1)

pub of_consumer : (table : Observations) (u : ℕ → ℤ) (m : ℕ → ℕ) (bundle : List ℕ) (value : ℤ)
    → IsOwnUtility (records_of table) table.levels (cost_of table) u m 1 (bundle_cost table bundle) value
    → (utility : FractionBundle → SignedFraction) → IsUtilityOfNumbers (choices_of (input_of_table table)) u m utility
    → AreEqual (utility (record { den = 1; num = slice_index bundle })) (record { num = value; den = 1 })
of_consumer table u m bundle value own utility of_numbers =
    let x : FractionBundle = record { den = 1; num = slice_index bundle } in
    let least = of_numbers.least x (omega arith) in
    let n = records_of table in
    let held = own_by_level table.levels (cost_of table) in
    let cost = λ (s : ℕ). level_scale table.levels * bundle_cost table bundle s in
    let same = both_at_most (utility x).num value (not_above n held u m 1 cost (utility x).num value least own) (not_above n held u m 1 cost value (utility x).num own least) in
    ap (λ z. z *ℤ pos 1) same ∙ ap (λ d. value *ℤ pos d) (sym (of_numbers.over x (omega arith)))
