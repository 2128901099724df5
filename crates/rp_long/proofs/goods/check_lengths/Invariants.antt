use Rattle.std.proofs.Common.{◌≡◌, None}
use Rattle.rp_num.specs.Below.{first_of}
use Rattle.rp_sheet.specs.Headers.{headers_of}
use Rattle.rp_long.specs.LongFaults.{ragged_fault}
use Rattle.rp_long.proofs.goods.check_lengths.Given as goal

abbrev pub invariant-loop-t : goal.invariant-loop-t
invariant-loop-t l = first_of l.t (ragged_fault (headers_of l.records) l.records) ≡ None
