use Rattle.rp_print.proofs.Euclid.{IsLowestTerms-euclid}
use Rattle.rp_print.proofs.laws.euclid_gives_lowest_terms.Goals as goal

pub returns : goal.returns
returns c = IsLowestTerms-euclid
