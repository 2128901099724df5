use Rattle.std.proofs.Common.{subst, below_more, arith}
use Rattle.std.proofs.lemmas.List.{get_or_read}
use Rattle.rp_num.specs.Fraction.{Fraction, FitsWidth, IsLowestTerms}
use Rattle.rp_homo.proofs.homothetic_verdict.are_lowest.Goals as goal

pub loop-fraction-preserved : goal.loop-fraction-preserved
loop-fraction-preserved c =
    let here = get_or_read c.args.fractions.now c.loop-fraction.fraction-index c.fraction-item.result (omega arith) c.fraction-item.is in
    record {
      lowest = below_more _ _ c.loop-fraction.invariant.lowest (λ d. subst (λ (f : Fraction). IsLowestTerms f.num f.den f) (here d) c.den.ensures.lowest);
      fit = below_more _ _ c.loop-fraction.invariant.fit (λ d. subst (λ (f : Fraction). FitsWidth f) (here d) c.den.ensures.fits);
    }
