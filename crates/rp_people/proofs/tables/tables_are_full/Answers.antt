use Rattle.rp_people.proofs.FullTables.{table_is_full}
use Rattle.rp_people.proofs.tables.tables_are_full.Goals as goal

pub returns : goal.returns
returns c = table_is_full
