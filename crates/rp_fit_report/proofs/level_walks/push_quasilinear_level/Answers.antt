use Rattle.std.proofs.Common.{◌++◌}
use Rattle.std.proofs.lemmas.Result.{IfOk-equal}
use Rattle.std.specs.Prelude.{codes}
use Rattle.rp_num.specs.Fraction.{fraction_text}
use Rattle.rp_print.specs.ListText.{line_of, ordinals_text, sums_text}
use Rattle.rp_print.specs.LowestTerms.{lowest_terms}
use Rattle.rp_fit_report.proofs.Lines.{three_texts}
use Rattle.rp_fit_report.proofs.level_walks.push_quasilinear_level.Goals as goal

pub returns : goal.returns
returns c =
    IfOk-equal c.push_sums.result c.push_sums.new.out.items _ _ c.push_sums.ensures
    (rw (c.in_ok-push_ordinals.ensures, c.in_ok-push_fraction_line.ensures, c.lowest_terms-level.ensures, c.from.ensures, c.from-2.ensures, c.as_slice.ensures, c.as_slice-2.ensures)
    (three_texts c.args.out.now.items (line_of (codes "quasilinear level " ++ fraction_text (lowest_terms c.args.part.now.num c.args.part.now.den)))
    (line_of (codes "cycle " ++ ordinals_text c.args.part.now.walk)) (line_of (codes "values " ++ sums_text c.args.part.now.values))))
