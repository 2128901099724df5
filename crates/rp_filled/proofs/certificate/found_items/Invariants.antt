use Rattle.std.proofs.Common.{ℕ}
use Rattle.rp_evidence.specs.Input.{input_of_table}
use Rattle.rp_filled.specs.InnerFound.{ArePaired, IsFoundItem}
use Rattle.rp_filled.proofs.certificate.found_items.Given as goal

abbrev pub invariant-loop-item : goal.invariant-loop-item
invariant-loop-item l = ArePaired (λ (k : ℕ). IsFoundItem (input_of_table l.table)) l.yielded l.all.items
