-- For the proofs alone: a writer between two records. No public clause cites this word.
use Rattle.std.specs.Prelude.{◌≡◌, ℕ, false, List, Some, Vec}
use Rattle.std.specs.declared.alloc.Global.{Global}
use Rattle.csv.specs.Writing.{fields_written, has_written, text_written, writer_setup}
use Rattle.csv.specs.declared.writer.Writer.{Writer}
use Rattle.rp_rows.specs.RowText.{panel_writer}

-- so much is written, and no field of a next record
pub record IsWriting (writer : Writer (Vec ℕ Global)) (text : List ℕ) : Type 0 where
  pub setup : writer_setup writer ≡ panel_writer
  pub no_field : fields_written writer ≡ 0
  pub nothing_shown : has_written writer ≡ false
  pub written : text_written (λ (v : Vec ℕ Global). Some v.items) writer ≡ Some text
