use Rattle.std.proofs.Common.{rules}
use Rattle.rp_evidence.specs.Preference.{IsStrict}
use Rattle.rp_fit_search.proofs.StepsByRanks.{rising_pushed}
use Rattle.rp_table.specs.Cost.{cost_of}
use Rattle.rp_table.specs.Tables.{records_of}
use Rattle.rp_fit_search.proofs.steps_by_ranks.list_rising.Goals as goal

pub returns : goal.returns
returns c =
    let a = c.args in
    let table = a.input.now.table.now in
    let strict : IsStrict (cost_of table) a.s a.t = search rules in
    rising_pushed (records_of table) (cost_of table) a.ranks.now a.t a.s a.row.now.items c.push.new.self.items c.requires.so_far c.requires.to strict c.in_ok-push.ensures.items
