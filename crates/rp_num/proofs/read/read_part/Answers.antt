use Rattle.std.proofs.Common.{arith}
use Rattle.rp_num.specs.Spelled.{FitsWhole}
use Rattle.rp_num.proofs.FractionText.{part_read, same_number}
use Rattle.rp_num.proofs.read.read_part.Goals as goal

pub returns-else-part-le-FRACTION_WIDTH : goal.returns-else-part-le-FRACTION_WIDTH
returns-else-part-le-FRACTION_WIDTH c =
    λ x h e.
    let read = part_read _ c.in-Some.part c.args.text.now FitsWhole c.in_ok-part.ensures c.in-Some.is in
    let same = same_number x c.in-Some.part c.args.text.now (omega arith) read.1 e read.0 in
    omega arith
