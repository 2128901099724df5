use Rattle.rp_num.proofs.Lowest.{IsLowestTerms-exists, same_IsLowestTerms}
use Rattle.rp_num.proofs.laws.lowest_terms_are_unique.Goals as goal

pub returns : goal.returns
returns c = record { exist = IsLowestTerms-exists; unique = same_IsLowestTerms }
