use Rattle.std.proofs.Common.{◌<◌, ◌-◌, ◌∙◌, length, arith}
use Rattle.rp_whole_tableau.proofs.GrownPrograms.{entries_written, rows_read}
use Rattle.rp_whole_tableau.proofs.grown.Grown.entries_of.Goals as goal

pub returns : goal.returns
returns c =
    let g = c.args.self.now in
    let n = c.args.column - c.width-width.result in
    let inside : n < length g.columns.items = omega (arith, c.requires, c.if-column-width.false, c.width-width.ensures.entries) in
    entries_written g c.args.column n c.as_slice-rows.result.now c.written_out.result inside (omega (arith, c.if-column-width.false, c.width-width.ensures.entries)) (c.as_slice-rows.ensures.value ∙ rows_read g.columns.items n c.index.result.now inside c.index.ensures) c.written_out.ensures
