use Rattle.std.proofs.Common.{◌≡◌, ◌-◌, length, slice_index}
use Rattle.rp_patch.specs.PartialTypes.{taken_in}
use Rattle.rp_generated.specs.InnerLight.{HasSought, IsSettledBelow}
use Rattle.rp_generated.specs.InnerLooks.{LookedBelow}
use Rattle.rp_generated.proofs.lightest.+seek.Given as goal

abbrev pub decreases-seek : goal.decreases-seek
decreases-seek l = l.patches.now.budgets - l.begun.now.partial.taken

abbrev pub invariant-loop-k : goal.invariant-loop-k
invariant-loop-k l = record {
  most : l.lightest.most ≡ l.fn.lightest.most;
  looked : LookedBelow l.patches (taken_in l.begun.partial) (slice_index l.list) (length l.list) l.k l.fn.lightest.steps l.lightest.steps (length l.fn.lightest.types.items) (length l.lightest.types.items);
  sought : HasSought l.patches l.prices.prices.items l.fn.lightest l.lightest;
  settled : IsSettledBelow l.patches l.prices.prices.items (taken_in l.begun.partial) l.list l.k l.lightest;
}
