use Rattle.std.proofs.Common.{◌≡◌, ℕ, List, take}
use Rattle.std.specs.List.{list_any}
use Rattle.std.specs.Str.{bytes_eq}
use Rattle.indexmap.specs.IndexSet.{contains_by}
use Rattle.rp_sheet.proofs.fixed_goods.names_found.Given as goal

abbrev pub invariant-loop-name : goal.invariant-loop-name
invariant-loop-name l =
    (name : List ℕ) → contains_by (λ key. bytes_eq name key.now) l.found ≡ list_any (bytes_eq name) (take l.name-index l.names)
