use Rattle.std.proofs.Common.{◌≡◌, ◌<◌, ◌+◌, length, reverse, slice_index}
use Rattle.rp_evidence.specs.Walk.{IsWalk}
use Rattle.rp_pref.specs.InnerSearch.{IsNoted}
use Rattle.rp_pref.proofs.walk.walk_back.Given as goal

abbrev pub invariant-loop-at : goal.invariant-loop-at
invariant-loop-at l = record {
  inside : l.at < l.n;
  deep : 0 < slice_index l.walks.depths.items l.at;
  leads : IsWalk l.n (IsNoted l.s l.walks.depths.items l.walks.before.items) l.at l.t (reverse l.walk.items);
  steps : length l.walk.items + slice_index l.walks.depths.items l.at ≡ slice_index l.walks.depths.items l.t + 1;
}

abbrev pub decreases-loop-at : goal.decreases-loop-at
decreases-loop-at l = slice_index l.walks.depths.items l.at
