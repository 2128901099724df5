use Rattle.std.proofs.Common.{◌≡◌, ◌<◌, ◌+◌, ◌∙◌, ap, FitsSigned, ℕ, rules}
use Rattle.std.specs.Int.{w128}
use Rattle.std.proofs.lemmas.Int.{to_z-of_z}
use Rattle.rp_whole_tableau.specs.Pivots.{entry_in}
use Rattle.rp_whole_tableau.specs.Programs.{objective_of}
use Rattle.rp_whole_tableau.proofs.ReadOffs.{price_more}
use Rattle.rp_whole_tableau.proofs.readout.prices.Goals as goal

pub loop-s-preserved : goal.loop-s-preserved
loop-s-preserved c =
    let t = c.args.t.now in
    let s = c.loop-s.s in
    let objective : c.len-objective.result ≡ objective_of t = search rules in
    let inside : s < objective_of t = search rules in
    let fits : FitsSigned w128 c.entry.result = search rules in
    let all = price_more t c.args.common s c.loop-s.prices.items c.in-Some.price inside c.loop-s.invariant.many c.loop-s.invariant.each
    _ (to_z-of_z w128 c.entry.result fits ∙ c.entry.ensures ∙ ap (λ (i : ℕ). entry_in t.rows.items i (s + 1)) objective) c.in-Some.ensures.exact in
    rw c.in_ok-push-in-Some.ensures.items (record { many = all.0; each = all.1 })
