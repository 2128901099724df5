use Rattle.std.proofs.Common.{arith, subst, sym}
use Rattle.std.specs.Int.{IsGcd}
use Rattle.std.proofs.lemmas.Nat.Gcd.{IsGcd-from_zero}
use mir.Syntax.{w128}
use Rattle.rp_num.proofs.Twos.{IsGcd-greater_part, IsGcd-lesser_part, odd_by_twos}
use Rattle.rp_num.proofs.divisor.wide_gcd.Goals as goal

pub loop-y-preserved : goal.loop-y-preserved
loop-y-preserved c =
    let part = odd_by_twos w128 c.loop-y.y c.loop-y-test.true c.loop-y.auto.y-fits.fits in
    record {
      odd = c.loop-y.invariant.odd;
      kept = λ g h. c.loop-y.invariant.kept g (IsGcd-greater_part _ _ _ _ g c.loop-y.invariant.odd c.loop-y-test.true part.1 c.if-z-x.false h);
    }

pub loop-y-preserved-then-z-x : goal.loop-y-preserved-then-z-x
loop-y-preserved-then-z-x c =
    let part = odd_by_twos w128 c.loop-y.y c.loop-y-test.true c.loop-y.auto.y-fits.fits in
    record {
      odd = part.0;
      kept = λ g h. c.loop-y.invariant.kept g (IsGcd-lesser_part _ _ _ _ g c.loop-y.invariant.odd c.loop-y-test.true part.1 c.if-z-x.true h);
    }

pub returns-then-y-eq0 : goal.returns-then-y-eq0
returns-then-y-eq0 c = c.loop-y.invariant.kept _ (IsGcd-from_zero _ _ (omega arith))

pub returns : goal.returns
returns c = c.loop-y.invariant.kept _ (subst (λ n. IsGcd c.loop-y.x c.loop-y.y n) (sym c.from.ensures) c.word_gcd.ensures)
