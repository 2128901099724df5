use Rattle.std.proofs.Common.{List, ℕ, slice_index, subst, sym}
use Rattle.std.proofs.lemmas.Result.{IfOk-weaker}
use Rattle.rp_evidence.specs.Input.{input_of_table}
use Rattle.rp_table.specs.Tables.{records_of}
use Rattle.rp_filled.specs.InnerFound.{AreListed}
use Rattle.rp_filled.proofs.FoundLemmas.{lower_over}
use Rattle.rp_filled.proofs.welfare.found_lower.Goals as goal

pub found_over-requires-clause-listed : goal.found_over-requires-clause-listed
found_over-requires-clause-listed c =
    subst (λ (xs : List ℕ). AreListed (records_of c.args.input.now.table.now) xs) (sym c.as_slice.ensures.value) c.in_ok-reached.ensures.listed

pub returns : goal.returns
returns c =
    let input = input_of_table c.args.input.now.table.now in
    IfOk-weaker c.found_over.result _ _ (λ found is. lower_over input (slice_index c.args.prices.now) c.args.t c.in_ok-reached.reached.items c.in_ok-reached.ensures.reached c.args.stated found is)
    (rw c.as_slice.ensures.value at c.found_over.ensures)
