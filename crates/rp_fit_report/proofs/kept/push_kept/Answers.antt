use Rattle.std.proofs.Common.{◌++◌, length}
use Rattle.std.proofs.lemmas.Result.{IfOk-equal}
use Rattle.std.specs.Fmt.{decimal}
use Rattle.std.specs.List.{flat_map}
use Rattle.std.specs.Prelude.{codes}
use Rattle.rp_print.specs.ListText.{line_of, numbers_text, ordinals_text}
use Rattle.rp_fit_report.specs.KeptText.{bounds_text, group_text}
use Rattle.rp_fit_report.proofs.Lines.{five_texts}
use Rattle.rp_fit_report.proofs.kept.push_kept.Goals as goal

pub returns : goal.returns
returns c =
    IfOk-equal c.push_groups.result c.push_groups.new.out.items _ _ c.push_groups.ensures
    (rw (c.in_ok-push_number_line.ensures, c.in_ok-push_numbers.ensures, c.in_ok-push_ordinals.ensures, c.in_ok-push_bounds.ensures, c.from.ensures, c.as_slice.ensures, c.as_slice-2.ensures, c.as_slice-3.ensures, c.as_slice-4.ensures)
    (five_texts c.args.out.now.items (bounds_text (length c.args.part.now.kept) c.args.part.now.most c.args.n) (line_of (codes "observations " ++ ordinals_text c.args.part.now.kept))
    (line_of (codes "ranks " ++ numbers_text c.args.part.now.ranks)) (line_of (codes "groups over " ++ decimal c.args.part.now.den)) (flat_map group_text c.args.part.now.groups)))
