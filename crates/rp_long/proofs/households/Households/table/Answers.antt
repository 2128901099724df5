use Rattle.std.proofs.Common.{◌≡◌, ◌+◌, ◌<◌, List, ℕ, length, refl, sym, subst, arith}
use Rattle.std.specs.List.{All}
use Rattle.rp_limits.specs.declared.table.TheConstants.{RECORDS}
use Rattle.rp_long.specs.LongFaults.{goods_fault}
use Rattle.rp_long.specs.Panels.{household_at}
use Rattle.rp_sheet.specs.Selections.{selected_records}
use Rattle.rp_long.proofs.PanelLemmas.{member_count, members_within, same_length, table_many, table_there, table_refused, told_of_memory}
use Rattle.rp_long.proofs.households.Households.table.Goals as goal

pub members-rows-requires : goal.members-rows-requires
members-rows-requires c =
    let same = member_count c.self.inside.columns c.self.inside.records.now c.self.inside.groups c.args.self.now c.self.invariant.1 c.self.view_is in
    omega (arith, same, c.requires)

pub selected-requires-clause-there : goal.selected-requires-clause-there
selected-requires-clause-there c =
    subst (λ (rows : List ℕ). All (λ t. t + 1 < length c.self.inside.records.now) rows) (sym c.members-rows.ensures)
    (members_within c.self.inside.columns c.self.inside.records.now c.self.inside.groups c.args.self.now c.self.invariant.1 c.self.view_is c.args.h c.requires)

pub returns-in-Ok-clause-denoted : goal.returns-in-Ok-clause-denoted
returns-in-Ok-clause-denoted c =
    table_there c.self.inside.columns c.self.inside.records.now c.self.inside.groups c.args.self.now c.self.invariant.1 c.self.view_is c.args.h c.requires
    c.members-rows.result.now c.table-columns.result.now c.in_ok-records.records c.members-rows.ensures c.table-columns.ensures c.in_ok-records.ensures _ c.in-Ok.ensures.denoted

pub returns-clause-refused : goal.returns-clause-refused
returns-clause-refused c = λ other.
    let e = c.in-Err.fault in
    table_refused c.self.inside.columns c.self.inside.records.now c.self.inside.groups c.args.self.now c.self.invariant.1 c.self.view_is c.args.h c.requires
    c.members-rows.result.now c.table-columns.result.now c.in_ok-records.records c.members-rows.ensures c.table-columns.ensures c.in_ok-records.ensures e c.in_long_file.result
    (c.in-Err.ensures.refused (told_of_memory c.members-rows.result.now c.table-columns.result.now e c.in_long_file.result c.in_long_file.ensures other)) c.in_long_file.ensures

-- more records than a table has
pub returns-then-rows-clause-refused : goal.returns-then-rows-clause-refused
returns-then-rows-clause-refused c = λ other.
    table_many c.self.inside.columns c.self.inside.records.now c.self.inside.groups c.args.self.now c.self.invariant.1 c.self.view_is c.args.h c.requires
    c.members-rows.result.now c.self.inside.columns.table (selected_records c.self.inside.records.now c.members-rows.result.now c.self.inside.columns.table) c.members-rows.ensures refl refl
    c.self.invariant.2 (omega (arith, c.if-rows.true))

-- no more of them
pub returns-in_err-records-clause-counted : goal.returns-in_err-records-clause-counted
returns-in_err-records-clause-counted c = λ many.
    let same = same_length c.self.inside.columns c.self.inside.records.now c.self.inside.groups c.args.self.now c.self.invariant.1 c.self.view_is c.args.h c.requires
    c.members-rows.result.now c.self.inside.columns.table (selected_records c.self.inside.records.now c.members-rows.result.now c.self.inside.columns.table) c.members-rows.ensures refl refl in
    absurd (omega (arith, many, same, c.if-rows.false))

pub returns-in-Ok-clause-counted : goal.returns-in-Ok-clause-counted
returns-in-Ok-clause-counted c = λ many.
    let same = same_length c.self.inside.columns c.self.inside.records.now c.self.inside.groups c.args.self.now c.self.invariant.1 c.self.view_is c.args.h c.requires
    c.members-rows.result.now c.self.inside.columns.table (selected_records c.self.inside.records.now c.members-rows.result.now c.self.inside.columns.table) c.members-rows.ensures refl refl in
    absurd (omega (arith, many, same, c.if-rows.false))

pub returns-clause-counted : goal.returns-clause-counted
returns-clause-counted c = λ many.
    let same = same_length c.self.inside.columns c.self.inside.records.now c.self.inside.groups c.args.self.now c.self.invariant.1 c.self.view_is c.args.h c.requires
    c.members-rows.result.now c.self.inside.columns.table (selected_records c.self.inside.records.now c.members-rows.result.now c.self.inside.columns.table) c.members-rows.ensures refl refl in
    absurd (omega (arith, many, same, c.if-rows.false))
