use Rattle.std.proofs.Common.{◌≡◌, take}
use Rattle.rp_find_mixture.specs.MixtureVerdict.{shares_of}
use Rattle.rp_find_mixture.proofs.shares.listed_shares.Given as goal

abbrev pub invariant-loop-entry : goal.invariant-loop-entry
invariant-loop-entry g l = l.shares.items ≡ shares_of (g.L.Listed.listed l.listed) (take l.entry-index l.entries)
