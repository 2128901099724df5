use Rattle.std.proofs.Common.{◌≡◌, ◌<◌, ◌+◌, ◌-◌, slice_index, sym, subst, ◌∙◌, arith}
use Rattle.rp_evidence.specs.StandardNumbers.{IsMultiplierBy}
use Rattle.rp_evidence.proofs.AfriatStages.{multiplier_passed, multiplier_raised}
use Rattle.rp_evidence.proofs.AfriatTheorem.{costs_more}
use Rattle.rp_evidence.proofs.OwnAfriat.{weak_by_own}
use Rattle.rp_pref.specs.Steps.{OwnWeak}
use Rattle.rp_table.specs.Cost.{cost_at, own_of}
use Rattle.rp_afriat.specs.InnerFilling.{scaled_at, utility_of}
use Rattle.rp_afriat.proofs.Quotients.{rounded_is_needed}
use Rattle.rp_afriat.proofs.Widths.{difference_same}
use Rattle.rp_afriat.proofs.multipliers.multiplier.Goals as goal
use Rattle.rp_afriat.proofs.multipliers.multiplier.Goals.{then-counts-j, else-counts-j}

pub overflow_sub-scaled : goal.overflow_sub-scaled
overflow_sub-scaled c =
    let a = c.args in
    let own : c.loop-t.t < a.costs.now.n = omega (arith, c.loop-t-test.true, c.n-t-end.ensures.count) in
    let more = costs_more a.costs.now.n (OwnWeak a.costs.now) (scaled_at a.costs.now) (own_of a.costs.now) (weak_by_own a.costs.now.n a.costs.now.levels (cost_at a.costs.now)) (slice_index a.counts.now) c.requires.counted.each a.s c.loop-t.t c.requires.observed own c.if-counts-j.true in
    omega (arith, c.scaled.ensures.exact, c.own.ensures.exact)

pub rounded_up-requires : goal.rounded_up-requires
rounded_up-requires c =
    let a = c.args in
    let own : c.loop-t.t < a.costs.now.n = omega (arith, c.loop-t-test.true, c.n-t-end.ensures.count) in
    let more = costs_more a.costs.now.n (OwnWeak a.costs.now) (scaled_at a.costs.now) (own_of a.costs.now) (weak_by_own a.costs.now.n a.costs.now.levels (cost_at a.costs.now)) (slice_index a.counts.now) c.requires.counted.each a.s c.loop-t.t c.requires.observed own c.if-counts-j.true in
    omega (arith, c.scaled.ensures.exact, c.own.ensures.exact)

pub loop-t-preserved : goal.loop-t-preserved
loop-t-preserved c =
    let a = c.args in
    let l = c.loop-t in
    let n = a.costs.now.n in
    let own : l.t < n = omega (arith, c.loop-t-test.true, c.n-t-end.ensures.count) in
    elim c.if-counts-j.branch [
      | then-counts-j w ↦
          let more = costs_more n (OwnWeak a.costs.now) (scaled_at a.costs.now) (own_of a.costs.now) (weak_by_own a.costs.now.n a.costs.now.levels (cost_at a.costs.now)) (slice_index a.counts.now) c.requires.counted.each a.s l.t c.requires.observed own w.if-counts-j.true in
          let extra : own_of a.costs.now a.s + (w.scaled.result - w.own.result) ≡ scaled_at a.costs.now a.s l.t = omega (arith, w.scaled.ensures.exact, w.own.ensures.exact) in
          let difference = difference_same (utility_of a.u.now l.t) (utility_of a.u.now a.s) (c.requires.fit l.t own (omega (arith, w.if-counts-j.true))) (c.requires.fit a.s c.requires.observed (omega arith)) in
          subst (λ k. IsMultiplierBy (l.t + 1) (scaled_at a.costs.now) (own_of a.costs.now) (slice_index a.counts.now) (utility_of a.u.now) a.s k) (sym (w.most-is ∙ w.max-most.ensures))
          (multiplier_raised (scaled_at a.costs.now) (own_of a.costs.now) (slice_index a.counts.now) (utility_of a.u.now) a.s l.t l.most w.rounded_up.result
          (λ t b h. costs_more n (OwnWeak a.costs.now) (scaled_at a.costs.now) (own_of a.costs.now) (weak_by_own a.costs.now.n a.costs.now.levels (cost_at a.costs.now)) (slice_index a.counts.now) c.requires.counted.each a.s t c.requires.observed (omega arith) h)
          w.if-counts-j.true l.invariant
          (rounded_is_needed (scaled_at a.costs.now) (own_of a.costs.now) (utility_of a.u.now) a.s l.t _ _ w.rounded_up.result difference extra w.rounded_up.ensures))
      | else-counts-j w ↦ subst (λ k. IsMultiplierBy (l.t + 1) (scaled_at a.costs.now) (own_of a.costs.now) (slice_index a.counts.now) (utility_of a.u.now) a.s k) (sym w.most-is)
          (multiplier_passed (scaled_at a.costs.now) (own_of a.costs.now) (slice_index a.counts.now) (utility_of a.u.now) a.s l.t l.most w.if-counts-j.false l.invariant)
    ]
