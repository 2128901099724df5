use Rattle.std.proofs.Common.{append-nil, ap, arith, subst, sym}
use Rattle.csv.specs.Records.{fields_of}
use Rattle.csv.specs.Writing.{row_text}
use Rattle.rp_rows.specs.RowText.{panel_writer}
use Rattle.rp_bound_rows.specs.RowText.{line_text}
use Rattle.rp_bound_rows.specs.Writing.{HasWritten}
use Rattle.rp_bound_rows.proofs.TextLemmas.{all_pieces, next_piece}
use Rattle.rp_bound_rows.proofs.writer.RowWriter.write_lines.Goals as goal

pub loop-line-init : goal.loop-line-init
loop-line-init c text has = subst (HasWritten _) (sym (append-nil text)) has

pub loop-line-preserved : goal.loop-line-preserved
loop-line-preserved c text has =
    let l = c.loop-line in
    next_piece (line_text c.args.row.now c.args.bounds.now) c.write.new.self text (row_text panel_writer (fields_of c.in_ok-record.record)) c.args.lines.now l.line-index c.line-item.result
    c.loop-line-test.true c.line-item.is (ap (row_text panel_writer) c.in_ok-record.ensures) (c.in_ok-write.ensures _ (l.invariant text has))

pub returns : goal.returns
returns c text has =
    let l = c.loop-line in
    all_pieces (line_text c.args.row.now c.args.bounds.now) l.self text c.args.lines.now l.line-index (omega (arith, c.loop-line-test.false)) (l.invariant text has)
