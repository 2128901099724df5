use Rattle.std.proofs.Common.{◌≡◌, ◌++◌, map, take}
use Rattle.rp_panel.specs.PanelText.{unnamed_row}
use Rattle.rp_panel.proofs.rows.push_unnamed.Given as goal

abbrev pub invariant-loop-refused : goal.invariant-loop-refused
invariant-loop-refused l =
    l.rows.items ≡ l.fn.rows.items ++ map (unnamed_row l.fn.kept) (take l.refused-index l.unnamed)
