use Rattle.std.proofs.Common.{All, arith, subst, sym}
use Rattle.rp_fit_find.proofs.Fits.{groups_observed, kept_within}
use Rattle.rp_json_entries.specs.Reading.{FitObservations, FitsCount}
use Rattle.rp_json_indices.specs.Limits.{FitsGroup}
use Rattle.rp_table.specs.Cost.{cost_of}
use Rattle.rp_table.specs.Tables.{records_of}
use Rattle.rp_fit_find.proofs.read_back.kept_fits.Goals as goal

pub groups_fit-requires : goal.groups_fit-requires
groups_fit-requires c =
    let table = c.args.input.now.table.now in
    let part = c.args.part.now in
    subst (λ groups. All (λ group. FitObservations group.members) groups) (sym c.as_slice-2.ensures)
    (groups_observed (records_of table) (omega (arith, c.n-n.ensures.count, c.n-n.ensures.few)) (cost_of table) part.groups c.requires.1.1.0)

pub returns : goal.returns
returns c =
    let table = c.args.input.now.table.now in
    let part = c.args.part.now in
    kept_within (records_of table) (omega (arith, c.n-n.ensures.count, c.n-n.ensures.few)) (cost_of table) part c.requires c.count_fits.ensures c.count_fits-2.ensures
    (subst (λ ranks. All FitsCount ranks) c.as_slice.ensures c.counts_fit.ensures) (subst (λ groups. All FitsGroup groups) c.as_slice-2.ensures c.groups_fit.ensures)
