use Rattle.std.proofs.Common.{◌≡◌, ◌≤◌, length, take}
use Rattle.rp_sheet.specs.Headers.{names_of}
use Rattle.rp_sheet.proofs.fixed_goods.count_goods.Given as goal

abbrev pub invariant-loop-c : goal.invariant-loop-c
invariant-loop-c l = record {
  counted : l.count ≡ length (names_of l.columns.form (take l.c l.columns.headers));
  few : l.count ≤ l.c;
}
