use Rattle.std.proofs.Common.{All, arith, subst, sym}
use Rattle.rp_fit_find.proofs.Fits.{steps_within, walks_observed}
use Rattle.rp_json_entries.specs.Reading.{FitObservations, FitsCount}
use Rattle.rp_json_indices.specs.Limits.{FitsCycle}
use Rattle.rp_table.specs.Cost.{cost_of}
use Rattle.rp_table.specs.Tables.{records_of}
use Rattle.rp_fit_find.proofs.read_back.steps_fit.Goals as goal

pub cycles_fit-requires : goal.cycles_fit-requires
cycles_fit-requires c =
    let table = c.args.input.now.table.now in
    let part = c.args.part.now in
    subst (λ walks. All (λ each. FitObservations each.walk) walks) (sym c.as_slice-2.ensures)
    (walks_observed (records_of table) (omega (arith, c.n-n.ensures.count, c.n-n.ensures.few)) (cost_of table) part.walks c.requires.1.1.1.0)

pub returns : goal.returns
returns c =
    let table = c.args.input.now.table.now in
    let part = c.args.part.now in
    steps_within (records_of table) (omega (arith, c.n-n.ensures.count, c.n-n.ensures.few)) (cost_of table) part c.requires c.whole_fits.ensures c.long_fits.ensures
    (subst (λ ranks. All FitsCount ranks) c.as_slice.ensures c.counts_fit.ensures) (subst (λ walks. All FitsCycle walks) c.as_slice-2.ensures c.cycles_fit.ensures)
