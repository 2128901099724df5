use Rattle.std.proofs.Common.{refl}
use Rattle.rp_sheet.proofs.FileLemmas.{read_as, whole_sheet}
use Rattle.rp_text.proofs.TableMade.{table_levels, table_parts, table_some_levels}
use Rattle.rp_text.proofs.tables.TableFileFileKind.make.Goals as goal

pub own_levels-requires : goal.own_levels-requires
own_levels-requires c = table_levels c.requires.1 c.as_slice-sizes.ensures.value

pub priced_table-requires-clause-whole : goal.priced_table-requires-clause-whole
priced_table-requires-clause-whole c = whole_sheet (read_as refl c.as_slice.ensures.value refl c.requires.1)

pub priced_table-requires-clause-some_levels : goal.priced_table-requires-clause-some_levels
priced_table-requires-clause-some_levels c = table_some_levels c.requires.1 c.as_slice-sizes.ensures.value c.in_ok-levels.levels c.in_ok-levels.ensures.each

pub priced_table-requires-clause-within : goal.priced_table-requires-clause-within
priced_table-requires-clause-within c = (table_parts c.requires.1 c.as_slice-sizes.ensures.value _ _ c.as_slice.ensures.value c.in_ok-levels.ensures.exact).0

pub returns-clause-exact : goal.returns-clause-exact
returns-clause-exact c = rw (← (table_parts c.requires.1 c.as_slice-sizes.ensures.value _ _ c.as_slice.ensures.value c.in_ok-levels.ensures.exact).1) c.priced_table.ensures
