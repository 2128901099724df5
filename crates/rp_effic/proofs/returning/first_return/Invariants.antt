use Rattle.std.proofs.Common.{ℕ, ◌<◌, IsTrue}
use Rattle.rp_pref.specs.Closure.{reaches_in}
use Rattle.rp_effic.proofs.returning.first_return.Given as goal

abbrev pub invariant-loop-s : goal.invariant-loop-s
invariant-loop-s l = (j : ℕ) → j < l.s → ¬ IsTrue (reaches_in l.closure j j)
