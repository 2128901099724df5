use Rattle.std.proofs.Common.{[], ◌∙◌, append-nil, ap, map, refl, subst, sym, true}
use Rattle.csv.specs.Records.{fields_of}
use Rattle.csv.specs.Writing.{row_text, with_flexible}
use Rattle.csv.specs.declared.writer.WriterBuilder.{WriterBuilder}
use Rattle.rp_rows.specs.InnerWriting.{IsWriting}
use Rattle.rp_rows.specs.RowText.{header_fields, panel_writer}
use Rattle.rp_rows.proofs.TextLemmas.{next_row}
use Rattle.rp_rows.proofs.text.panel_text.Goals as goal

pub loop-row-init : goal.loop-row-init
loop-row-init c =
    let from = c.from_writer-writer.ensures in
    let started : IsWriting c.from_writer-writer.result [] = record {
      setup = from.cfg ∙ c.flexible.ensures ∙ ap (λ (b : WriterBuilder). with_flexible b true) c.new.ensures;
      no_field = from.fields;
      nothing_shown = from.wrote;
      written = rw (from.wtr, from.empty, c.new-2.ensures.items) refl;
    } in
    let header = c.in_ok-write.ensures [] started in
    subst (IsWriting c.write.new.writer) (ap (row_text panel_writer) c.in_ok-header.ensures ∙ sym (append-nil (row_text panel_writer (header_fields (map (λ name. name.now) c.args.kept.now))))) header

pub loop-row-preserved : goal.loop-row-preserved
loop-row-preserved c =
    let l = c.loop-row in
    next_row c.write-in-loop-row.new.writer (row_text panel_writer (header_fields (map (λ name. name.now) c.args.kept.now))) c.args.rows.now l.row-index c.row-item.result (fields_of c.in_ok-line.line)
    c.loop-row-test.true c.row-item.is c.in_ok-line.ensures (c.in_ok-write-2.ensures _ l.invariant)
