use Rattle.rp_patch.specs.Patches.{PatchList}
use Rattle.rp_generated.specs.Rounds.{AreLightTypes}
use Rattle.rp_generated.specs.InnerRounds.{AddsFirst}
use Rattle.rp_whole_tableau.specs.declared.grown.Grown.{Grown}
use Rattle.rp_generated.proofs.rounds.add_all.Given as goal

abbrev pub invariant-loop-k : goal.invariant-loop-k
invariant-loop-k l = (p : PatchList) (by : Grown) → AreLightTypes p by l.types → AddsFirst p by l.k l.fn.program l.program
