use Rattle.std.proofs.Common.{◌<◌, arith, length, sym, take}
use Rattle.std.proofs.lemmas.List.{take_all}
use Rattle.std.proofs.lemmas.List.Elements.{All-more, All-same}
use Rattle.rp_json_indices.specs.Limits.{FitsGroup}
use Rattle.rp_fit_find.proofs.read_back.groups_fit.Goals as goal

pub loop-k-preserved : goal.loop-k-preserved
loop-k-preserved c =
    let each = c.index-groups-k.result in
    let within : c.loop-k.k < length c.args.groups.now = omega arith in
    All-more FitsGroup c.args.groups.now c.loop-k.k each within c.loop-k.invariant (c.requires c.loop-k.k each within, c.count_fits.ensures)

pub returns : goal.returns
returns c =
    let all = c.args.groups.now in
    All-same FitsGroup all (take c.loop-k.k all) (sym (take_all c.loop-k.k all (omega arith))) c.loop-k.invariant
