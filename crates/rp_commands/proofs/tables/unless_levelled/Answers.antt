use Rattle.std.proofs.Common.{refl}
use Rattle.rp_commands.proofs.FileLemmas.{all_taken, levels_refused, none_taken}
use Rattle.rp_commands.proofs.tables.unless_levelled.Goals as goal

pub returns-then-takes_levels-clause-taken : goal.returns-then-takes_levels-clause-taken
returns-then-takes_levels-clause-taken c =
    (all_taken c.args.takes_levels c.args.file.now c.args.table c.if-takes_levels.true).0

pub returns-then-takes_levels-clause-levels : goal.returns-then-takes_levels-clause-levels
returns-then-takes_levels-clause-levels c =
    (all_taken c.args.takes_levels c.args.file.now c.args.table c.if-takes_levels.true).1

pub returns-then-levelled-clause-refused : goal.returns-then-levelled-clause-refused
returns-then-levelled-clause-refused c =
    levels_refused c.args.takes_levels c.args.file.now c.args.table c.refused.result c.if-takes_levels.false
    (λ none. absurd (cc (c.if-levelled.ensures.1 none))) c.refused.ensures

pub returns-clause-taken : goal.returns-clause-taken
returns-clause-taken c =
    (none_taken c.args.takes_levels c.args.file.now c.args.table (c.if-levelled.ensures.0 refl)).0

pub returns-clause-levels : goal.returns-clause-levels
returns-clause-levels c =
    (none_taken c.args.takes_levels c.args.file.now c.args.table (c.if-levelled.ensures.0 refl)).1
