use Rattle.std.proofs.Common.{◌≡◌, ℕ, ◌<◌, false, slice_index}
use Rattle.rp_evidence.specs.Preference.{IsStrict}
use Rattle.rp_fit.specs.StepsEvidence.{is_taken}
use Rattle.rp_table.specs.Cost.{cost_of}
use Rattle.rp_check_levels.proofs.steps.falls_from.Given as goal

abbrev pub invariant-loop-t : goal.invariant-loop-t
invariant-loop-t l = (t : ℕ) → t < l.t → IsStrict (cost_of l.input.table.now) l.s t
    → is_taken l.taken l.s t ≡ false → slice_index l.ranks t < slice_index l.ranks l.s
