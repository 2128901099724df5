use Rattle.std.proofs.Common.{◌≡◌, None, map, take}
use Rattle.rp_num.specs.Below.{first_of}
use Rattle.rp_sheet.specs.Headers.{headers_of}
use Rattle.rp_long.specs.LongFaults.{twice_fault}
use Rattle.rp_long.proofs.headers.read_headers.Given as goal

abbrev pub invariant-loop-c : goal.invariant-loop-c
invariant-loop-c l = record {
  so_far : map (λ key. key.now) l.headers.keys ≡ take l.c (headers_of l.records);
  faultless : first_of l.c (twice_fault (headers_of l.records)) ≡ None;
}
