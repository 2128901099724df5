use Rattle.std.proofs.Common.{◌≡◌, ◌-◌, length}
use Rattle.rp_patch.specs.PartialTypes.{taken_in}
use Rattle.rp_generated.specs.InnerRounds.{StayTypes}
use Rattle.rp_generated.specs.InnerLooks.{IsDecidedBelow, LookedBelow}
use Rattle.rp_generated.proofs.plain.+seek_plainly.Given as goal

abbrev pub decreases-seek_plainly : goal.decreases-seek_plainly
decreases-seek_plainly l = l.patches.now.budgets - l.partial.now.taken

abbrev pub invariant-loop-i : goal.invariant-loop-i
invariant-loop-i l = record {
  most : l.light.most ≡ l.fn.light.most;
  looked : LookedBelow l.patches (taken_in l.partial) (λ i. i) (length l.patches.patches) l.i l.fn.light.steps l.light.steps (length l.fn.light.types.items) (length l.light.types.items);
  types : StayTypes l.patches l.fn.light l.light;
  decided : IsDecidedBelow l.patches (taken_in l.partial) l.i l.light;
}
