use Rattle.std.proofs.Common.{subst, slice_index, sym}
use Rattle.rp_farkas.specs.Measure.{measured}
use Rattle.rp_num.specs.Fraction.{Fraction, IsLowestTerms}
use Rattle.rp_num.proofs.Lowest.{same_IsLowestTerms}
use Rattle.rp_clauses.proofs.SameFractions.{told_by_parts}
use Rattle.rp_clauses.proofs.bound.bound_holds.Goals as goal

pub returns-then-check_pair : goal.returns-then-check_pair
returns-then-check_pair g c =
    let p = g.P.Lp.program c.args.p.now in
    let pair = c.in-Shown.pair in
    let shown = c.check_pair.ensures.0 c.if-check_pair.true in
    let lowest = rw (c.of.ensures.exact, c.from.ensures, c.as_slice.ensures) at c.new.ensures.lowest in
    let same = told_by_parts c.eq.result c.in-Shown.value c.new.result c.eq.ensures in
    rw c.in-Shown.is (
      (λ h. (shown, subst (λ (f : Fraction). IsLowestTerms (measured p c.args.measure (slice_index pair.x)) pair.den f) (sym (same.0 h)) lowest)),
      (λ h. same.1 (same_IsLowestTerms _ _ _ _ shown.den_positive h.1 lowest)),
    )
