use Rattle.std.proofs.lemmas.Result.{IfOk-equal}
use Rattle.std.specs.Prelude.{codes}
use Rattle.rp_num.specs.Fraction.{fraction_text}
use Rattle.rp_fit_report.specs.LevelWalksText.{part_of_one}
use Rattle.rp_fit_report.proofs.Lines.{then_a_line}
use Rattle.rp_fit_report.proofs.level_walks.push_bounds.Goals as goal

pub returns : goal.returns
returns c =
    IfOk-equal c.push_fraction_line.result c.push_fraction_line.new.out.items _ _ c.push_fraction_line.ensures
    (rw (c.in_ok-push_after.ensures, c.part_of_one.ensures, c.part_of_one-2.ensures)
    (then_a_line c.args.out.now.items (codes "homothetic level ") (fraction_text (part_of_one c.args.low)) (codes " to ") (fraction_text (part_of_one c.args.high))))
