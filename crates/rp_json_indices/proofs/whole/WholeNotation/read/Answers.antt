use Rattle.std.proofs.Common.{rules}
use Rattle.std.specs.Fmt.{decimal}
use Rattle.serde_json.specs.View.{view}
use Rattle.rp_num.specs.Spelled.{FitsWhole}
use Rattle.rp_json_entries.proofs.NumberLemmas.{if_read_as_text, one_whole}
use Rattle.rp_json_indices.proofs.whole.WholeNotation.read.Goals as goal

pub returns-in-Some : goal.returns-in-Some
returns-in-Some c =
    if_read_as_text decimal FitsWhole (view c.args.value.now) c.in-Some.text.now c.read_u128.result one_whole (search rules) c.read_u128.ensures
