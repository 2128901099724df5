use Rattle.std.proofs.Common.{subst}
use Rattle.rp_evidence.specs.Input.{input_of_table}
use Rattle.rp_fit.specs.Violations.{IsNumberOfPairs}
use Rattle.rp_table.specs.Tables.{records_of}
use Rattle.rp_check_fit.specs.Axioms.{IsPairOf}
use Rattle.rp_check_fit.proofs.CountedPairs.{pairs_not_told}
use Rattle.rp_check_fit.proofs.violations.check_pairs.Goals as goal

pub returns-then-counted-told : goal.returns-then-counted-told
returns-then-counted-told c =
    let table = c.args.input.now.table.now in
    pairs_not_told (records_of table) (IsPairOf (input_of_table table) c.args.which) c.count_pairs-counted.result c.args.told c.args.place c.fails.result c.count_pairs-counted.ensures
    c.if-counted-told.true c.fails.ensures

pub returns : goal.returns
returns c =
    let table = c.args.input.now.table.now in
    subst (λ k. IsNumberOfPairs (records_of table) (IsPairOf (input_of_table table) c.args.which) k) c.if-counted-told.false c.count_pairs-counted.ensures
