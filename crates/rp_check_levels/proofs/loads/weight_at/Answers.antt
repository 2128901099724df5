use Rattle.std.proofs.Common.{◌<◌, List, ℕ, length, subst, sym}
use Rattle.rp_check_levels.proofs.StrictWalks.{simple_has_some, simple_is_observed}
use Rattle.rp_check_levels.specs.InnerWalks.{AreObserved}
use Rattle.rp_check_levels.specs.WalksFailure.{walk_at}
use Rattle.rp_table.specs.Cost.{cost_of}
use Rattle.rp_table.specs.Tables.{records_of}
use Rattle.rp_check_levels.proofs.loads.weight_at.Goals as goal

pub goes_by-requires-clause-observed : goal.goes_by-requires-clause-observed
goes_by-requires-clause-observed c =
    let table = c.args.input.now.table.now in
    let simple = (c.requires.walks c.args.k c.requires.place).1.0 in
    subst (λ (walk : List ℕ). AreObserved (records_of table) walk) (sym c.walk_of.ensures) (simple_is_observed (records_of table) (cost_of table) (walk_at c.args.walks.now c.args.k).walk simple)

pub goes_by-requires-clause-some : goal.goes_by-requires-clause-some
goes_by-requires-clause-some c =
    let table = c.args.input.now.table.now in
    let simple = (c.requires.walks c.args.k c.requires.place).1.0 in
    subst (λ (walk : List ℕ). 0 < length walk) (sym c.walk_of.ensures) (simple_has_some (records_of table) (cost_of table) (walk_at c.args.walks.now c.args.k).walk simple)
