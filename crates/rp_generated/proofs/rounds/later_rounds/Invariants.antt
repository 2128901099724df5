use Rattle.std.proofs.Common.{◌+◌}
use Rattle.rp_generated.specs.InnerLooks.{WereMadeIn}
use Rattle.rp_generated.specs.Rounds.{HasGrown}
use Rattle.rp_generated.specs.Steps.{SomeHasFound}
use Rattle.rp_generated.proofs.rounds.later_rounds.Given as goal

abbrev pub invariant-loop-round : goal.invariant-loop-round
invariant-loop-round l = record {
  made : WereMadeIn l.patches l.most (l._round + 2) l.steps (SomeHasFound l.patches);
  grown : HasGrown l.patches l._round l.program;
}
