use Rattle.rp_evidence.specs.Input.{input_of_table}
use Rattle.rp_check_fit.proofs.CountedPairs.{reaches_another}
use Rattle.rp_check_fit.proofs.pairs.reaches.Goals as goal

pub returns : goal.returns
returns c =
    let input = input_of_table c.args.input.now.table.now in
    let told = c.equals_or_reaches.ensures input c.requires.closure c.requires.first c.requires.second in
    let other = reaches_another input c.args.s c.args.t c.requires.differ in
    (λ h. other.0 (told.0 h), λ h. told.1 (other.1 h))
