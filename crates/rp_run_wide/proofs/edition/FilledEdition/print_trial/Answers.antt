use Rattle.std.proofs.Common.{subst}
use Rattle.std.proofs.lemmas.Result.{IfOk-weaker}
use Rattle.rp_evidence.specs.Input.{input_of_table}
use Rattle.rp_filled.specs.Filled.{IsFilledVerdict}
use Rattle.rp_table.specs.Tables.{Observations}
use Rattle.rp_run_wide.proofs.edition.FilledEdition.print_trial.Goals as goal

pub fill_homothetic-requires : goal.fill_homothetic-requires
fill_homothetic-requires c = c.requires.judged.homothetic_proves

pub returns : goal.returns
returns c =
    let filled = subst (λ (table : Observations). IsFilledVerdict (input_of_table table) c.args.verdicts.homothetic c.in_ok-homothetic.homothetic) c.requires.drawn c.in_ok-homothetic.ensures in
    IfOk-weaker c.report_trial.result _ _ (λ text is. (c.in_ok-homothetic.homothetic, filled, is)) c.report_trial.ensures
