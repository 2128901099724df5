use Rattle.std.proofs.Common.{◌≡◌, ℕ, ◌<◌, Ok, take}
use Rattle.rp_check.specs.CheckVerdict.{ItemFailsAt}
use Rattle.rp_check.specs.ItemFailure.{one_shows_garp}
use Rattle.rp_evidence.specs.Input.{input_of_table}
use Rattle.rp_check.proofs.certificate.check_items.Given as goal

abbrev pub invariant-loop-k : goal.invariant-loop-k
invariant-loop-k l =
    (l.garp_shown ≡ one_shows_garp (take l.k l.items))
    × ((k : ℕ) → k < l.k → ItemFailsAt (input_of_table l.table) l.items k (Ok tt))
