use Rattle.std.proofs.Common.{◌≡◌, ◌++◌, take}
use Rattle.std.specs.List.{flat_map}
use Rattle.rp_report.specs.ReportText.{item_text, table_text}
use Rattle.rp_report.proofs.tables.report.Given as goal

abbrev pub invariant-loop-item : goal.invariant-loop-item
invariant-loop-item l = l.text.items ≡ table_text l.table ++ flat_map item_text (take l.item-index l.certificate.items)
