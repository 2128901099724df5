use Rattle.std.proofs.Common.{subst, sym}
use Rattle.std.specs.Int.{IsGcd}
use Rattle.std.proofs.lemmas.Nat.Gcd.{IsGcd-from_mod, IsGcd-swap}
use Rattle.rp_num.proofs.divisor.odd_gcd.Goals as goal

pub returns-then-odd-gt-MOST_WORD : goal.returns-then-odd-gt-MOST_WORD
returns-then-odd-gt-MOST_WORD c = IsGcd-swap _ _ _ (IsGcd-from_mod _ _ _ c.wide_gcd.ensures)

pub returns-then-other-gt-MOST_WORD : goal.returns-then-other-gt-MOST_WORD
returns-then-other-gt-MOST_WORD c =
    subst (λ n. IsGcd c.args.odd c.args.other n) (sym c.from.ensures)
    (IsGcd-swap _ _ _ (IsGcd-from_mod _ _ _ c.word_gcd.ensures))

pub returns-else-other-gt-MOST_WORD : goal.returns-else-other-gt-MOST_WORD
returns-else-other-gt-MOST_WORD c =
    subst (λ n. IsGcd c.args.odd c.args.other n) (sym c.from-else-other-gt-MOST_WORD.ensures)
    c.word_gcd-else-other-gt-MOST_WORD.ensures
