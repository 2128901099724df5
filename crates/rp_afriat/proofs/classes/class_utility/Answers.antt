use mir.Syntax.{w128}
use Rattle.std.proofs.Common.{rules, ◌≡◌, ◌+◌, slice_index, sym, subst, ◌∙◌, arith}
use Rattle.std.proofs.lemmas.Int.{to_z-of_z}
use Rattle.std.specs.Prelude.{FitsSigned}
use Rattle.rp_evidence.specs.StandardNumbers.{IsClassUtilityBy}
use Rattle.rp_table.specs.Cost.{own_of}
use Rattle.rp_afriat.specs.InnerFilling.{IsAllowedInClass, IsLeastOf, scaled_at, utility_of}
use Rattle.rp_afriat.proofs.Leasts.{class_no_more, class_one_more, least_is_utility}
use Rattle.rp_afriat.proofs.classes.class_utility.Goals as goal
use Rattle.rp_afriat.proofs.classes.class_utility.Goals.{then-counts-t, else-counts-t}

pub loop-t-preserved : goal.loop-t-preserved
loop-t-preserved c =
    let a = c.args in
    let l = c.loop-t in
    elim c.if-counts-t.branch [
      | then-counts-t w ↦
          subst (λ o. IsLeastOf (IsAllowedInClass (l.t + 1) a.costs.now.n (scaled_at a.costs.now) (own_of a.costs.now) a.counts.now a.u.now a.lambda.now a.class) o) (sym (w.least-is ∙ w.lesser-least.ensures))
          (class_one_more (scaled_at a.costs.now) (own_of a.costs.now) a.counts.now a.u.now a.lambda.now a.class a.costs.now.n l.t l.least l.invariant _ w.if-counts-t.true w.lowest_at.ensures)
      | else-counts-t w ↦
          subst (λ o. IsLeastOf (IsAllowedInClass (l.t + 1) a.costs.now.n (scaled_at a.costs.now) (own_of a.costs.now) a.counts.now a.u.now a.lambda.now a.class) o) (sym w.least-is)
          (class_no_more (scaled_at a.costs.now) (own_of a.costs.now) a.counts.now a.u.now a.lambda.now a.class a.costs.now.n l.t l.least l.invariant w.if-counts-t.false)
    ]

pub returns : goal.returns
returns c =
    let a = c.args in
    let l = c.loop-t in
    let end : l.t ≡ a.costs.now.n = omega (arith, c.loop-t-test.false, l.auto.t-end, c.n-t-end.ensures.count) in
    let fits : FitsSigned w128 c.unwrap_or.result = search rules in
    let all = subst (λ m. IsLeastOf (IsAllowedInClass m a.costs.now.n (scaled_at a.costs.now) (own_of a.costs.now) a.counts.now a.u.now a.lambda.now a.class) l.least) end l.invariant in
    λ t b e. subst (λ x. IsClassUtilityBy a.costs.now.n (scaled_at a.costs.now) (own_of a.costs.now) (slice_index a.counts.now) (utility_of a.u.now) (slice_index a.lambda.now) a.class x)
    (sym (to_z-of_z w128 c.unwrap_or.result fits ∙ c.unwrap_or.ensures))
    (least_is_utility (scaled_at a.costs.now) (own_of a.costs.now) a.counts.now a.u.now a.lambda.now a.class a.costs.now.n t l.least b e all)
