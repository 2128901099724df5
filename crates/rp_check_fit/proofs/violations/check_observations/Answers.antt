use Rattle.std.proofs.Common.{subst}
use Rattle.rp_evidence.specs.Count.{IsNumberOf}
use Rattle.rp_evidence.specs.Input.{input_of_table}
use Rattle.rp_fit.specs.Violations.{IsInGarpPair}
use Rattle.rp_table.specs.Tables.{records_of}
use Rattle.rp_check_fit.proofs.CountedPairs.{number_not_told}
use Rattle.rp_check_fit.proofs.violations.check_observations.Goals as goal

pub returns-then-counted-told : goal.returns-then-counted-told
returns-then-counted-told c =
    let table = c.args.input.now.table.now in
    number_not_told (records_of table) (IsInGarpPair (input_of_table table)) c.count_in_pairs-counted.result c.args.told 5 c.fails.result c.count_in_pairs-counted.ensures
    c.if-counted-told.true c.fails.ensures

pub returns : goal.returns
returns c =
    let table = c.args.input.now.table.now in
    subst (λ k. IsNumberOf (records_of table) (IsInGarpPair (input_of_table table)) k) c.if-counted-told.false c.count_in_pairs-counted.ensures
