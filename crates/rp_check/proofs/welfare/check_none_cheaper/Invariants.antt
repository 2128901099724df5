use Rattle.std.proofs.Common.{ℕ, ◌<◌, slice_index}
use Rattle.rp_evidence.specs.Input.{input_of_table}
use Rattle.rp_check.specs.WelfareFailure.{IsNotAboveAt}
use Rattle.rp_check.proofs.welfare.check_none_cheaper.Given as goal

abbrev pub invariant-loop-s : goal.invariant-loop-s
invariant-loop-s l = (k : ℕ) → k < l.s → IsNotAboveAt (input_of_table l.new_prices.table.now) (slice_index l.new_prices.prices.now) l.t l.upper k
