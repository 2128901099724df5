use Rattle.std.proofs.Common.{◌<◌, [], List, ℕ, length, sym, ap, subst}
use Rattle.rp_long.specs.declared.fault.LongFault.TheVariants as long_fault
use Rattle.rp_long.proofs.PanelLemmas.{told_of_memory}
use Rattle.rp_long.proofs.StageLemmas.{bad_selected, fine_selected, some_selected}
use Rattle.rp_long.proofs.goods.check_table_columns.Goals as goal

pub check_headers-requires : goal.check_headers-requires
check_headers-requires c =
    subst (λ (rs : List (List (List ℕ))). 0 < length rs) (sym c.in_ok-headers.ensures) (some_selected c.args.records.now [] c.args.columns.now)

pub returns-in-Ok-clause-fine : goal.returns-in-Ok-clause-fine
returns-in-Ok-clause-fine c = fine_selected c.args.records.now c.args.columns.now c.in_ok-headers.headers c.in_ok-headers.ensures c.in-Ok.ensures.fine

pub returns-clause-refused : goal.returns-clause-refused
returns-clause-refused c = λ other.
    let e = c.in-Err.fault in
    let told = c.in_long_file.result in
    bad_selected c.args.records.now c.args.columns.now c.in_ok-headers.headers e told c.in_ok-headers.ensures
    (c.in-Err.ensures.refused (told_of_memory [] c.args.columns.now e told c.in_long_file.ensures (λ same. other (ap long_fault.Table same)))) c.in_long_file.ensures
