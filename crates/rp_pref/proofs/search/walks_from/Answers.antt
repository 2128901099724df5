use Rattle.std.proofs.Common.{arith}
use Rattle.rp_pref.proofs.DepthLemmas.{goes_to_first}
use Rattle.rp_pref.proofs.search.walks_from.Goals as goal

pub deepen_all-requires-clause-first : goal.deepen_all-requires-clause-first
deepen_all-requires-clause-first c =
    rw (c.deref_mut.ensures.value, c.deref_mut-2.ensures.value)
    (goes_to_first c.args.table.now c.args.n c.args.s c.in_ok-depths.depths.items c.in_ok-before.before.items c.in_ok-depths.ensures.length (omega (arith, c.in_ok-before.before.ok.0, c.in_ok-before.ensures.len)) c.in_ok-depths.ensures.first)
