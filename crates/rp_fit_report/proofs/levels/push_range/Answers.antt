use Rattle.std.proofs.lemmas.Result.{IfOk-equal}
use Rattle.std.specs.Prelude.{codes}
use Rattle.rp_num.specs.Fraction.{fraction_text}
use Rattle.rp_fit_report.specs.LevelsText.{exact_text}
use Rattle.rp_fit_report.proofs.Lines.{then_the_rest}
use Rattle.rp_fit_report.proofs.levels.push_range.Goals as goal

pub returns : goal.returns
returns c =
    IfOk-equal c.push_line.result c.push_line.new.out.items _ _ c.push_line.ensures
    (rw (c.in_ok-push_after-2.ensures, c.in_ok-push_after.ensures, c.exact_word.ensures)
    (then_the_rest c.args.out.now.items c.args.word.now (fraction_text c.args.low) (codes " to ") (fraction_text c.args.high) (exact_text c.args.exact)))
