use Rattle.std.proofs.Common.{◌++◌, ℕ, List, OnOk, subst}
use Rattle.csv.specs.Records.{fields_of}
use Rattle.rp_bound_rows.specs.Writing.{HasWritten}
use Rattle.rp_bound_rows.proofs.TextLemmas.{of_bounds, of_fault}
use Rattle.rp_bound_rows.proofs.writer.RowWriter.write_row.Goals as goal

pub returns-in-Bounds : goal.returns-in-Bounds
returns-in-Bounds c =
    subst (λ (t : List ℕ). OnOk c.write_bounds.result ((text : List ℕ) → HasWritten c.args.self.now text → HasWritten c.write_bounds.new.self (text ++ t)))
    (of_bounds c.args.row.now c.in-Bounds.bounds c.as_slice.result.now c.in-Bounds.is c.as_slice.ensures) c.write_bounds.ensures

pub returns-in_ok-line-in-Fault : goal.returns-in_ok-line-in-Fault
returns-in_ok-line-in-Fault c =
    subst (λ (t : List ℕ). OnOk c.write.result ((text : List ℕ) → HasWritten c.args.self.now text → HasWritten c.write.new.self (text ++ t)))
    (of_fault c.args.row.now c.in-Fault.fault (fields_of c.in_ok-line-in-Fault.line) c.in-Fault.is c.in_ok-line-in-Fault.ensures) c.write.ensures
