use Rattle.std.proofs.Common.{◌∙◌}
use Rattle.rp_long.proofs.HeaderLemmas.{place_now}
use Rattle.rp_long.proofs.columns.find_column.Goals as goal

pub returns : goal.returns
returns c = c.get_index_of.ensures.index ∙ place_now c.args.headers.now.keys c.args.name.now
