use Rattle.std.proofs.Common.{append-nil, ap, arith, subst, sym}
use Rattle.rp_bound_rows.specs.RowText.{lines_text}
use Rattle.rp_bound_rows.specs.Writing.{HasWritten}
use Rattle.rp_bound_rows.proofs.TextLemmas.{all_pieces, next_piece}
use Rattle.rp_bound_rows.proofs.writer.RowWriter.write_bounds.Goals as goal

pub loop-lines-init : goal.loop-lines-init
loop-lines-init c text has = subst (HasWritten _) (sym (append-nil text)) has

pub loop-lines-preserved : goal.loop-lines-preserved
loop-lines-preserved c text has =
    let l = c.loop-lines in
    next_piece (lines_text c.args.row.now c.args.bounds.now) c.write_lines.new.self text (lines_text c.args.row.now c.args.bounds.now c.as_slice.result.now) c.args.at.now l.lines-index c.lines-item.result
    c.loop-lines-test.true c.lines-item.is (ap (lines_text c.args.row.now c.args.bounds.now) c.as_slice.ensures) (c.in_ok-write_lines.ensures _ (l.invariant text has))

pub returns : goal.returns
returns c text has =
    let l = c.loop-lines in
    all_pieces (lines_text c.args.row.now c.args.bounds.now) l.self text c.args.at.now l.lines-index (omega (arith, c.loop-lines-test.false)) (l.invariant text has)
