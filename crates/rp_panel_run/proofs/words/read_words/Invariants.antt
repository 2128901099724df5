use Rattle.std.proofs.Common.{◌≡◌, drop, map}
use Rattle.std.specs.Prelude.{string_bytes}
use Rattle.rp_panel_run.specs.Questions.{all_taken, nothing_read}
use Rattle.rp_panel_run.proofs.words.read_words.Given as goal

abbrev pub invariant-loop-i : goal.invariant-loop-i
invariant-loop-i l =
    all_taken l.question (drop l.i (map string_bytes l.words)) ≡ all_taken nothing_read (drop 1 (map string_bytes l.words))
