use Rattle.rp_commands.proofs.tables.load_line_table.Goals as goal

pub returns-clause-loads : goal.returns-clause-loads
returns-clause-loads g c = rw (c.file-file.ensures, c.takes_levels.ensures) at c.load_table.ensures.loads

pub returns-clause-levels : goal.returns-clause-levels
returns-clause-levels g c = rw c.takes_levels.ensures at c.load_table.ensures.levels
