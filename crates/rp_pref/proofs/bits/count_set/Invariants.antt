use Rattle.std.proofs.Common.{◌≡◌, ◌*◌, ◌≤◌, count_by}
use Rattle.std.specs.List.{range_with_len}
use Rattle.rp_evidence.specs.Bits.{bit_in}
use Rattle.rp_pref.proofs.bits.count_set.Given as goal

abbrev pub invariant-loop-word : goal.invariant-loop-word
invariant-loop-word l =
    (l.total ≡ count_by (bit_in l.words) (range_with_len 0 (l.word-index * 64))) × (l.total ≤ l.word-index * 64)
