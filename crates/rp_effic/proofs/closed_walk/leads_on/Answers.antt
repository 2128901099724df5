use Rattle.std.proofs.Common.{◌+◌, ◌<◌, ◌≡◌, length, get_or, sym, subst, ◌∙◌, arith}
use Rattle.std.proofs.lemmas.Bool.{false≢true}
use Rattle.std.proofs.lemmas.List.{get_or_read}
use Rattle.rp_evidence.specs.Preference.{IsWeakAt}
use Rattle.rp_table.specs.Cost.{cost_at}
use Rattle.rp_effic.specs.InnerLeft.{IsLeft}
use Rattle.rp_effic.proofs.LeftLemmas.{moved, passed_more}
use Rattle.rp_effic.proofs.RowLemmas.{weak_at_one}
use Rattle.rp_effic.proofs.closed_walk.leads_on.Goals as goal
use Rattle.rp_effic.proofs.closed_walk.leads_on.Goals.{else-left-t-via-then-left-t+else-weak, else-left-t-via-else-left-t}

pub returns-then-weak-clause-left : goal.returns-then-weak-clause-left
returns-then-weak-clause-left c =
    let a = c.args in
    let l = c.loop-place in
    moved a.costs.now.n (IsWeakAt (cost_at a.costs.now) a.level.num a.level.den) a.steps.now.starts.items a.steps.now.to.items a.left.now l.at l.invariant.left
    a.s l.place c.requires.from l.invariant.passed

pub loop-place-preserved : goal.loop-place-preserved
loop-place-preserved c =
    let a = c.args in
    let l = c.loop-place in
    let weak = IsWeakAt (cost_at a.costs.now) a.level.num a.level.den in
    let to = a.steps.now.to.items in
    let t = c.index-t.result.now in
    let starts = a.steps.now.starts.items in
    let end : c.index-end.result.now ≡ get_or starts (a.s + 1) 0 =
    get_or_read starts (a.s + 1) c.index-end.result.now (omega (arith, c.requires.from, c.requires.steps.start_each)) c.index-end.ensures 0 in
    let last = c.requires.steps.within (a.s + 1) (omega (arith, c.requires.from)) in
    let within : l.place < length to = omega (arith, c.loop-place-test.true, end, last) in
    record {
      left = l.invariant.left;
      passed = passed_more weak to a.left.now a.s (get_or starts a.s 0) l.place t
          (sym (get_or_read to l.place t within c.index-t.ensures 0))
          (elim c.else-left-t.branch [
            | else-left-t-via-then-left-t+else-weak w ↦ λ _ step. false≢true (sym w.if-weak.false ∙ w.weak.ensures.1 step)
            | else-left-t-via-else-left-t w ↦ λ here. absurd (false≢true (sym w.if-left-t.false ∙ here))
          ])
          l.invariant.passed;
    }

pub returns-clause-left : goal.returns-clause-left
returns-clause-left c =
    let a = c.args in
    let l = c.loop-place in
    moved a.costs.now.n (IsWeakAt (cost_at a.costs.now) a.level.num a.level.den) a.steps.now.starts.items a.steps.now.to.items a.left.now l.at l.invariant.left
    a.s c.index-end.result.now c.requires.from (λ p from below. l.invariant.passed p from (omega (arith, c.loop-place-test.false)))

pub returns-clause-leads : goal.returns-clause-leads
returns-clause-leads c = λ t t_in step here.
    let a = c.args in
    let l = c.loop-place in
    let weak = IsWeakAt (cost_at a.costs.now) a.level.num a.level.den in
    let starts = a.steps.now.starts.items in
    let end : c.index-end.result.now ≡ get_or starts (a.s + 1) 0 =
    get_or_read starts (a.s + 1) c.index-end.result.now (omega (arith, c.requires.from, c.requires.steps.start_each)) c.index-end.ensures 0 in
    c.requires.steps.listed a.s t c.requires.from t_in (weak_at_one (cost_at a.costs.now) a.level.num a.level.den a.s t c.requires.level step)
    (λ p from below e. l.invariant.passed p from (omega (arith, c.loop-place-test.false, end))
    (subst (λ x. IsLeft a.left.now x) (sym e) here) (subst (λ x. weak a.s x) (sym e) step))
