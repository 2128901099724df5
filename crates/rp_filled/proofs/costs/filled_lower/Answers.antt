use Rattle.std.proofs.Common.{List, ℕ, slice_index, subst, sym}
use Rattle.std.proofs.lemmas.Result.{IfOk-weaker}
use Rattle.rp_evidence.specs.Input.{input_of_table}
use Rattle.rp_table.specs.Tables.{records_of}
use Rattle.rp_filled.specs.InnerFound.{AreListed}
use Rattle.rp_filled.proofs.CostLemmas.{lower_over}
use Rattle.rp_filled.proofs.costs.filled_lower.Goals as goal

pub found_over-requires-clause-listed : goal.found_over-requires-clause-listed
found_over-requires-clause-listed c =
    subst (λ (xs : List ℕ). AreListed (records_of c.args.tech.now.table) xs) (sym c.as_slice.ensures.value) c.in_ok-listed.ensures.listed

pub returns : goal.returns
returns c =
    let tech = c.args.tech.now in
    IfOk-weaker c.found_over.result _ _
    (λ found is. lower_over (input_of_table tech.table) (slice_index tech.y) c.args.y (slice_index c.args.prices.now) c.in_ok-listed.listed.items c.in_ok-listed.ensures.lists c.args.stated found is)
    (rw c.as_slice.ensures.value at c.found_over.ensures)
