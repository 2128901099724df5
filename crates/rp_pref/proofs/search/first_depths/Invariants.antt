use Rattle.std.proofs.Common.{◌≡◌, vec_len}
use Rattle.rp_pref.specs.InnerSearch.{AreFirst}
use Rattle.rp_pref.proofs.search.first_depths.Given as goal

abbrev pub invariant-loop-t : goal.invariant-loop-t
invariant-loop-t l = record {
  each : vec_len l.depths ≡ l.t;
  first : AreFirst l.table l.n l.s l.t l.depths.items;
}
