use Rattle.std.proofs.Common.{◌≡◌, ℕ, pos}
use Rattle.rp_whole_tableau.specs.Pivots.{number_at}
use Rattle.rp_whole_tableau.proofs.grown.objective_row.Given as goal

abbrev pub invariant-loop : goal.invariant-loop
invariant-loop l = (j : ℕ) → number_at l.row.items j ≡ pos 0
