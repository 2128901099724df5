use Rattle.std.proofs.Common.{◌≡◌, [], ◌∷◌, ◌++◌, length, refl, rules}
use Rattle.rp_whole_tableau.proofs.FirstPrograms.{first_made}
use Rattle.rp_whole_tableau.proofs.grown.Grown.of_sides.Goals as goal

pub returns : goal.returns
returns c =
    let all : c.loop-i.i ≡ length c.args.sides.now = search rules in
    let pushed : c.push-2.new.self.items ≡ c.loop-i.rows.items ++ c.in_ok-objective_row.field-0 ∷ [] = search rules in
    first_made c.args.sides.now _ c.loop-i.rows.items c.in_ok-objective_row.field-0 c.loop-i.i all refl pushed c.loop-i.invariant.count c.loop-i.invariant.each c.in_ok-objective_row.ensures c.loop-i.invariant.many c.loop-i.invariant.slacks c.new.ensures.items
