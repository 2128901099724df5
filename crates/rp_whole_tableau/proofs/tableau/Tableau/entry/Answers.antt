use Rattle.std.proofs.Common.{◌≤◌, ◌∙◌, FitsSigned, length, rules}
use Rattle.std.specs.Int.{w128}
use Rattle.std.proofs.lemmas.Int.{to_z-of_z}
use Rattle.rp_whole_tableau.proofs.Entries.{entry_past, entry_read}
use Rattle.rp_whole_tableau.proofs.tableau.Tableau.entry.Goals as goal

pub returns-in-Some : goal.returns-in-Some
returns-in-Some c =
    let fits : FitsSigned w128 c.entry_at.result = search rules in
    to_z-of_z w128 c.entry_at.result fits
    ∙ entry_read c.args.self.now.rows.items c.deref.result.now c.args.i c.args.j c.in-Some.row.now _ _ c.deref.ensures.value c.in-Some.ensures.lookup.0 c.in-Some.ensures.lookup.1 c.as_slice.ensures.value c.entry_at.ensures

pub returns-in-None : goal.returns-in-None
returns-in-None c =
    let past : length c.args.self.now.rows.items ≤ c.args.i = search rules in
    entry_past c.args.self.now.rows.items c.args.i c.args.j past
