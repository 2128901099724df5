use Rattle.std.proofs.Common.{[], ◌∙◌, ap, refl, subst, true}
use Rattle.csv.specs.Writing.{row_text, with_flexible}
use Rattle.csv.specs.declared.writer.WriterBuilder.{WriterBuilder}
use Rattle.rp_rows.specs.RowText.{panel_writer}
use Rattle.rp_bound_rows.specs.Writing.{HasWritten}
use Rattle.rp_bound_rows.proofs.writer.start_rows.Goals as goal

pub returns : goal.returns
returns c =
    let from = c.from_writer-writer.ensures in
    let started : HasWritten (record { writer = c.from_writer-writer.result }) [] = record {
      setup = from.cfg ∙ c.flexible.ensures ∙ ap (λ (b : WriterBuilder). with_flexible b true) c.new.ensures;
      no_field = from.fields;
      nothing_shown = from.wrote;
      written = rw (from.wtr, from.empty, c.new-2.ensures.items) refl;
    } in
    let header = c.in_ok-write.ensures [] started in
    subst (HasWritten c.write.new.self) (ap (row_text panel_writer) c.in_ok-header.ensures) header
