use Rattle.std.proofs.Common.{All, take}
use Rattle.rp_json_entries.specs.Reading.{FitsCount}
use Rattle.rp_fit_find.proofs.read_back.counts_fit.Given as goal

abbrev pub invariant-loop-k : goal.invariant-loop-k
invariant-loop-k l = All FitsCount (take l.k l.numbers)
