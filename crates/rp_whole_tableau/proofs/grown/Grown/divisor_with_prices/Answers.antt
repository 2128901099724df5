use Prim.Native.Nat.{◌∣◌}
use Rattle.std.proofs.Common.{◌≡◌, ◌+◌, ℕ, rules, subst}
use Rattle.std.specs.Int.RustNames.{unsigned_abs}
use Rattle.rp_whole_tableau.specs.Pivots.{entry_in}
use Rattle.rp_whole_tableau.specs.Programs.{objective_of}
use Rattle.rp_whole_tableau.proofs.ReadOffs.{prices_begun, prices_more}
use Rattle.rp_whole_tableau.proofs.grown.Grown.divisor_with_prices.Goals as goal

pub loop-row-init : goal.loop-row-init
loop-row-init c = prices_begun c.args.self.now.tableau c.args.common c.requires

pub loop-row-preserved : goal.loop-row-preserved
loop-row-preserved c =
    let t = c.args.self.now.tableau in
    let row = c.loop-row.row in
    let objective : c.len-objective.result ≡ objective_of t = search rules in
    let with = c.divisor_with-divisor.ensures in
    prices_more t c.args.common row c.loop-row.divisor c.divisor_with-divisor.result c.loop-row.invariant with.some with.divides
    (subst (λ (i : ℕ). c.divisor_with-divisor.result ∣ unsigned_abs (entry_in t.rows.items i (row + 1))) objective with.entry)
