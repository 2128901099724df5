use Rattle.std.proofs.Common.{◌≡◌, [], replicate}
use Rattle.rp_bounds_panel.proofs.rows.empty_texts.Given as goal

abbrev pub invariant-loop : goal.invariant-loop
invariant-loop l = l.texts.items ≡ replicate l.counter []
