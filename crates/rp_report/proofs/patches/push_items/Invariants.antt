use Rattle.std.proofs.Common.{◌≡◌, ◌++◌, take}
use Rattle.std.specs.List.{flat_map}
use Rattle.rp_report.specs.RandomText.{random_item_text}
use Rattle.rp_report.proofs.patches.push_items.Given as goal

abbrev pub invariant-loop-item : goal.invariant-loop-item
invariant-loop-item l =
    l.out.items ≡ l.fn.out.items ++ flat_map (random_item_text l.patches) (take l.item-index l.items)
