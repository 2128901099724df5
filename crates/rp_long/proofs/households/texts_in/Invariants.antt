use Rattle.std.proofs.Common.{◌≡◌, map, take}
use Rattle.rp_forms.specs.Texts.{text_at}
use Rattle.rp_sheet.specs.Fields.{row_at}
use Rattle.rp_long.proofs.households.texts_in.Given as goal

abbrev pub invariant-loop-column : goal.invariant-loop-column
invariant-loop-column l = l.texts.items ≡ map (text_at (row_at l.records l.t)) (take l.column-index l.columns)
