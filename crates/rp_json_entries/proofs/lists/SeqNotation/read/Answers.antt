use Rattle.std.proofs.Common.{rules, map}
use Rattle.serde_json.specs.View.{view}
use Rattle.rp_json_entries.proofs.ListLemmas.{if_array}
use Rattle.rp_json_entries.proofs.lists.SeqNotation.read.Goals as goal

pub returns-in-Some : goal.returns-in-Some
returns-in-Some g c =
    if_array g.N.Notation.value_of g.N.Notation.fits (view c.args.value.now) (map view c.in-Some.values.now.items) c.read_list.result (search rules) (rw (← c.as_slice.ensures.value) c.read_list.ensures)
