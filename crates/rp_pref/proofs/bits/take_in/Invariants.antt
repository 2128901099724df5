use Rattle.std.proofs.Common.{◌≡◌}
use Rattle.rp_pref.proofs.Rounds.{IsTakenIn}
use Rattle.rp_pref.proofs.bits.take_in.Given as goal

abbrev pub invariant-loop-word : goal.invariant-loop-word
invariant-loop-word l =
    (l.rows.grid.ghost_name ≡ l.initial.rows.grid.ghost_name) × (l.rows.into ≡ l.s) × (l.rows.from ≡ l.k) × (l.words ≡ l.fn.bits.cols)
    × IsTakenIn l.fn.bits l.rows.grid.now l.s l.k l.word
