-- A writer of rows between two of them: so much is written, and no field of a next record.
use Rattle.std.specs.Prelude.{◌≡◌, ℕ, false, List, Some, Vec}
use Rattle.std.specs.declared.alloc.Global.{Global}
use Rattle.csv.specs.Writing.{fields_written, has_written, text_written, writer_setup}
use Rattle.rp_rows.specs.RowText.{panel_writer}
use Rattle.rp_bound_rows.specs.declared.writer.RowWriter.{RowWriter}

pub record HasWritten (rows : RowWriter) (text : List ℕ) : Type 0 where
  pub setup : writer_setup rows.writer ≡ panel_writer
  pub no_field : fields_written rows.writer ≡ 0
  pub nothing_shown : has_written rows.writer ≡ false
  pub written : text_written (λ (v : Vec ℕ Global). Some v.items) rows.writer ≡ Some text
