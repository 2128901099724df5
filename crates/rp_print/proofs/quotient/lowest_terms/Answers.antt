use Rattle.rp_num.proofs.Lowest.{same_IsLowestTerms}
use Rattle.rp_print.proofs.Euclid.{IsLowestTerms-euclid}
use Rattle.rp_print.specs.LowestTerms.{lowest_terms}
use Rattle.rp_print.proofs.quotient.lowest_terms.Goals as goal

pub returns : goal.returns
returns c =
    let n = c.args.num in
    let d = c.args.den in
    same_IsLowestTerms n d c.new.result (lowest_terms n d) c.requires.positive c.new.ensures.lowest (IsLowestTerms-euclid n d c.requires.positive)
