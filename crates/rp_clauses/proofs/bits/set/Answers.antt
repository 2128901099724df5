use Rattle.std.proofs.Common.{◌<◌, ◌/◌, arith, length, refl, get_or}
use Rattle.rp_evidence.proofs.BitLemmas.{bit_set}
use Rattle.rp_clauses.proofs.bits.set.Goals as goal

pub returns : goal.returns
returns c =
    let row = c.args.row.now in
    let t = c.args.t in
    bit_set row t (get_or row (t / 64) 0) (let within : t / 64 < length row = omega (arith, c.requires, c.told-row) in within) refl
