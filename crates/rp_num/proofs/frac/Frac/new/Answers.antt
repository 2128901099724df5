use Rattle.rp_num.proofs.Lowest.{IsLowestTerms-divided, IsLowestTerms-itself, FitsWidth-divided}
use Rattle.rp_num.proofs.frac.Frac.new.Goals as goal

pub invariant_of-result : goal.invariant_of-result
invariant_of-result c = (
  IsLowestTerms-itself _ _ _ (IsLowestTerms-divided c.args.num c.args.den _ c.requires.positive c.gcd-common.ensures.greatest),
  FitsWidth-divided _ _ _ c.requires.num_fits c.requires.den_fits,
)

pub returns-clause-lowest : goal.returns-clause-lowest
returns-clause-lowest c =
    IsLowestTerms-divided c.args.num c.args.den _ c.requires.positive c.gcd-common.ensures.greatest
