use mir.Syntax.{w128}
use Rattle.std.proofs.Common.{rules, ◌≡◌, ◌<◌, ◌+◌, slice_index, sym, subst, ◌∙◌, arith}
use Rattle.std.proofs.lemmas.Int.{to_z-of_z}
use Rattle.std.specs.Prelude.{FitsSigned}
use Rattle.rp_table.specs.Cost.{own_of}
use Rattle.rp_afriat.specs.InnerFilling.{IsAllowed, IsLeastOf, scaled_at, utility_of}
use Rattle.rp_afriat.proofs.Leasts.{allowed_no_more, allowed_one_more}
use Rattle.rp_afriat.proofs.Widths.{bound_same, utility_is_signed}
use Rattle.rp_afriat.proofs.classes.lowest_at.Goals as goal
use Rattle.rp_afriat.proofs.classes.lowest_at.Goals.{then-counts-i, else-counts-i}

pub loop-s-preserved : goal.loop-s-preserved
loop-s-preserved c =
    let a = c.args in
    let l = c.loop-s in
    elim c.if-counts-i.branch [
      | then-counts-i w ↦
          let own : l.s < a.costs.now.n = omega (arith, c.loop-s-test.true, c.n-s-end.ensures.count) in
          let fits : FitsSigned w128 w.bound-allowed.result = search rules in
          let utility_fits = utility_is_signed (utility_of a.u.now l.s) (c.requires.fit l.s own w.if-counts-i.true).0 in
          subst (λ o. IsLeastOf (IsAllowed (l.s + 1) (scaled_at a.costs.now) (own_of a.costs.now) a.counts.now a.u.now a.lambda.now a.class a.t) o) (sym (w.least-is ∙ w.lesser-least.ensures))
          (allowed_one_more (scaled_at a.costs.now) (own_of a.costs.now) a.counts.now a.u.now a.lambda.now a.class a.t l.s l.least l.invariant _ w.if-counts-i.true
          (to_z-of_z w128 w.bound-allowed.result fits ∙ (w.bound-allowed.ensures
          ∙ bound_same _ (utility_of a.u.now l.s) (slice_index a.lambda.now l.s) _ _ _ _ (to_z-of_z w128 (utility_of a.u.now l.s) utility_fits) w.scaled.ensures.exact w.own.ensures.exact)))
      | else-counts-i w ↦ subst (λ o. IsLeastOf (IsAllowed (l.s + 1) (scaled_at a.costs.now) (own_of a.costs.now) a.counts.now a.u.now a.lambda.now a.class a.t) o) (sym w.least-is)
          (allowed_no_more (scaled_at a.costs.now) (own_of a.costs.now) a.counts.now a.u.now a.lambda.now a.class a.t l.s l.least l.invariant w.if-counts-i.false)
    ]

pub returns : goal.returns
returns c =
    let a = c.args in
    let l = c.loop-s in
    let end : l.s ≡ a.costs.now.n = omega (arith, c.loop-s-test.false, l.auto.s-end, c.n-s-end.ensures.count) in
    subst (λ m. IsLeastOf (IsAllowed m (scaled_at a.costs.now) (own_of a.costs.now) a.counts.now a.u.now a.lambda.now a.class a.t) l.least) end l.invariant
