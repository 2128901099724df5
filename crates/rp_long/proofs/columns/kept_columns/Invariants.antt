use Rattle.std.proofs.Common.{◌≡◌, None, map, take}
use Rattle.rp_num.specs.Below.{first_of}
use Rattle.rp_sheet.specs.ChoiceCounts.{column_named}
use Rattle.rp_long.specs.LongFaults.{kept_fault}
use Rattle.rp_long.proofs.columns.kept_columns.Given as goal

abbrev pub invariant-loop-k : goal.invariant-loop-k
invariant-loop-k l = record {
  so_far : l.columns.items ≡ map (λ name. column_named name (map (λ key. key.now) l.headers.keys)) (take l.k (map (λ name. name.now) l.kept));
  faultless : first_of l.k (kept_fault (map (λ name. name.now) l.kept) (map (λ key. key.now) l.headers.keys)) ≡ None;
}
