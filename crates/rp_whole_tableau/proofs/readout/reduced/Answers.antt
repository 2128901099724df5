use Rattle.std.proofs.Common.{◌≡◌, ◌≤ℤ◌, pos, rules}
use Rattle.std.specs.Int.RustNames.{unsigned_abs}
use Rattle.rp_whole_tableau.proofs.ReadOffs.{exact_part}
use Rattle.rp_whole_tableau.proofs.readout.reduced.Goals as goal

pub returns-then-part-from-clause-exact : goal.returns-then-part-from-clause-exact
returns-then-part-from-clause-exact c = λ divides.
    let some : pos 0 ≤ℤ c.args.n = search rules in
    let size : c.unsigned_abs.result ≡ unsigned_abs c.args.n = search rules in
    exact_part c.args.n c.args.common c.unsigned_abs.result some size divides
