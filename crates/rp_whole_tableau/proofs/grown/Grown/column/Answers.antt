use Rattle.std.proofs.Common.{◌≤◌, ◌∙◌, length, rules, sym}
use Rattle.rp_whole_tableau.proofs.ReadOffs.{rows_past, rows_seen}
use Rattle.rp_whole_tableau.proofs.grown.Grown.column.Goals as goal

pub returns-in-Some : goal.returns-in-Some
returns-in-Some c =
    c.as_slice.ensures.value
    ∙ rows_seen c.args.self.now.columns.items c.deref.result.now c.args.n c.in-Some.rows.now c.deref.ensures.value c.in-Some.ensures.lookup.0 c.in-Some.ensures.lookup.1

pub returns-in-None : goal.returns-in-None
returns-in-None c =
    let past : length c.args.self.now.columns.items ≤ c.args.n = search rules in
    sym (rows_past c.args.self.now.columns.items c.args.n past)
