use Rattle.std.proofs.Common.{◌<◌, sym, ◌∙◌, arith}
use Rattle.std.proofs.lemmas.Bool.{false≢true}
use Rattle.rp_evidence.specs.Preference.{IsWeakAt}
use Rattle.rp_table.specs.Cost.{cost_at}
use Rattle.rp_effic.proofs.LeftLemmas.{looked_past, looked_taken, taken}
use Rattle.rp_effic.proofs.closed_walk.take_away.Goals as goal
use Rattle.rp_effic.proofs.closed_walk.take_away.Goals.{then-left-s+then-not-leads_on, else-left-s, else-left-s-via-then-left-s+else-not-leads_on, else-left-s-via-else-left-s}

pub loop-s-preserved : goal.loop-s-preserved
loop-s-preserved c =
    let a = c.args in
    let l = c.loop-s in
    let n = a.costs.now.n in
    let weak = IsWeakAt (cost_at a.costs.now) a.level.num a.level.den in
    let starts = a.steps.now.starts.items in
    let to = a.steps.now.to.items in
    let inside : l.s < n = omega (arith, c.loop-s-test.true, c.n-s-end.ensures.count) in
    elim c.if-left-s.branch [
      | then-left-s+then-not-leads_on w ↦ rw (w.left-is, w.at-is, w.fewer-is) (record {
        left = taken n weak starts to l.left w.leads_on.new.at w.leads_on.ensures.left l.s inside w.if-left-s.true
            (rw w.if-not-leads_on.true at w.leads_on.ensures.leads);
        looked = looked_taken n weak l.s a.left.now l.left l.fewer l.invariant.looked (omega (arith, inside, l.invariant.left.left_each)) w.if-left-s.true;
      })
      | else-left-s w ↦ elim w.else-left-s.branch [
        | else-left-s-via-then-left-s+else-not-leads_on v ↦ rw (w.left-is, w.at-is, w.fewer-is, v.at-is) (record {
          left = v.leads_on.ensures.left;
          looked = looked_past n weak l.s a.left.now l.left l.fewer l.invariant.looked (λ _. rw v.if-not-leads_on.false at v.leads_on.ensures.leads);
        })
        | else-left-s-via-else-left-s v ↦ rw (w.left-is, w.at-is, w.fewer-is, v.at-is) (record {
          left = l.invariant.left;
          looked = looked_past n weak l.s a.left.now l.left l.fewer l.invariant.looked (λ here. absurd (false≢true (sym v.if-left-s.false ∙ here)));
        })
      ]
    ]
