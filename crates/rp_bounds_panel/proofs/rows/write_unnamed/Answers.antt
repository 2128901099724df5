use Rattle.std.proofs.Common.{◌++◌, List, append-nil, arith, map, subst, sym, take_all}
use Rattle.std.specs.List.{flat_map}
use Rattle.rp_bound_rows.specs.RowText.{text_of_row}
use Rattle.rp_bound_rows.specs.Writing.{HasWritten}
use Rattle.rp_bounds_panel.specs.BoundsText.{unnamed_row}
use Rattle.rp_bounds_panel.proofs.RowLemmas.{refused_more}
use Rattle.rp_long.specs.declared.fault.IdFault.TheVariants.{NoId}
use Rattle.rp_long.specs.declared.fault.Unnamed.{Unnamed}
use Rattle.rp_bounds_panel.proofs.rows.write_unnamed.Goals as goal

pub loop-refused-init : goal.loop-refused-init
loop-refused-init c text has = subst (HasWritten _) (sym (append-nil text)) has

pub loop-refused-preserved : goal.loop-refused-preserved
loop-refused-preserved c text has =
    let l = c.loop-refused in
    refused_more _ text c.args.kept c.args.unnamed.now l.refused-index (record { row = 0; fault = NoId }) c.in_ok-row.row c.loop-refused-test.true c.in_ok-row.ensures (c.in_ok-write_row.ensures _ (l.invariant text has))

pub returns : goal.returns
returns c text has =
    let l = c.loop-refused in
    subst (λ (us : List Unnamed). HasWritten l.rows (text ++ flat_map text_of_row (map (unnamed_row c.args.kept) us))) (take_all l.refused-index c.args.unnamed.now (omega (arith, c.loop-refused-test.false))) (l.invariant text has)
