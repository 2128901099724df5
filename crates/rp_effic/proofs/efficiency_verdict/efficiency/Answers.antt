use Rattle.rp_evidence.specs.Count.{AreCounts}
use Rattle.rp_evidence.specs.Preference.{IsStrictAt}
use Rattle.rp_evidence.proofs.Counts.{counts_order_steps}
use Rattle.rp_evidence.proofs.Index.{no_strict_cycle}
use Rattle.rp_evidence.proofs.IndexThreshold.{index_is_least, walk_at_index}
use Rattle.rp_evidence.specs.declared.efficiency.Efficiency.{Efficiency}
use Rattle.rp_people.proofs.TablesOfCosts.{efficiency_of_each}
use Rattle.rp_table.specs.Cost.{cost_at}
use Rattle.rp_table.proofs.CostLimits.{cost_positive}
use Rattle.rp_pref.proofs.VerdictLemmas.{counts_of}
use Rattle.rp_effic.proofs.Returns.{above_bounds}
use Rattle.rp_effic.proofs.efficiency_verdict.efficiency.Goals as goal

pub above_index-requires-clause-returns : goal.above_index-requires-clause-returns
above_index-requires-clause-returns c =
    let costs = c.args.costs.now in
    let level = c.in_ok-level.level in
    walk_at_index costs.n (cost_at costs) c.n-n.ensures.valid.some (cost_positive costs c.n-n.ensures.valid) level.num level.den c.in_ok-level.ensures.index

pub returns-clause-proves : goal.returns-clause-proves
returns-clause-proves c =
    let costs = c.args.costs.now in
    let level = c.in_ok-level.level in
    let index = c.in_ok-level.ensures.index in
    let strict = IsStrictAt (cost_at costs) level.num level.den in
    let counts : AreCounts costs.n strict c.in_ok-below.below = counts_of c.in_ok-strict.strict costs.n strict c.in_ok-below.below c.in_ok-strict.ensures c.in_ok-below.ensures in
    record {
      index = index;
      below = counts_order_steps costs.n strict c.in_ok-below.below counts
          (no_strict_cycle costs.n (cost_at costs) (λ s s_in. cost_positive costs c.n-n.ensures.valid s s s_in s_in) level.num level.den index);
      above = above_bounds costs.n (cost_at costs) level.num level.den c.in_ok-above.above c.in_ok-above.ensures;
      at = c.in_ok-at.ensures.proves;
    }

pub returns-clause-given : goal.returns-clause-given
returns-clause-given c =
    let costs = c.args.costs.now in
    let level = c.in_ok-level.level in
    record {
      level = c.in_ok-level.ensures.lowest;
      below = counts_of c.in_ok-strict.strict costs.n (IsStrictAt (cost_at costs) level.num level.den) c.in_ok-below.below c.in_ok-strict.ensures c.in_ok-below.ensures;
      above = c.in_ok-above.ensures;
      at = c.in_ok-at.ensures.given;
    }

pub returns-clause-threshold : goal.returns-clause-threshold
returns-clause-threshold c =
    let costs = c.args.costs.now in
    let level = c.in_ok-level.level in
    (index_is_least costs.n (cost_at costs) c.n-n.ensures.valid.some (cost_positive costs c.n-n.ensures.valid) level.num level.den).0 c.in_ok-level.ensures.index

pub returns-clause-says : goal.returns-clause-says
returns-clause-says c =
    let evidence : Efficiency = record { level = c.in_ok-level.level; below = c.in_ok-below.below; above = c.in_ok-above.above; at = c.in_ok-at.at } in
    efficiency_of_each c.args.costs.now evidence (returns-clause-proves c)
