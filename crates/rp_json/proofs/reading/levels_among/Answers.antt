use Rattle.std.proofs.Common.{arith}
use Rattle.rp_json.proofs.TopLemmas.{third_of_four}
use Rattle.rp_json.proofs.reading.levels_among.Goals as goal

pub returns : goal.returns
returns c =
    third_of_four c.args.values.now c.levels-item.result c.read_some_levels.result (omega (arith, c.in-len4.len_at_least, c.in-len4.len_below))
    c.levels-item.is c.read_some_levels.ensures
