use Rattle.std.proofs.Common.{◌≡◌}
use Rattle.rp_long.specs.Ids.{grouped_below}
use Rattle.rp_long.specs.Panels.{id_text}
use Rattle.rp_long.proofs.groups.group_records.Given as goal

abbrev pub invariant-loop-t : goal.invariant-loop-t
invariant-loop-t l = l.groups ≡ grouped_below (id_text l.column l.records) l.t
