use Rattle.std.proofs.Common.{rules}
use Rattle.std.specs.Fmt.{signed_decimal}
use Rattle.serde_json.specs.View.{view}
use Rattle.rp_num.specs.Spelled.{FitsSum}
use Rattle.rp_json_entries.proofs.NumberLemmas.{if_read_as_text, one_sum}
use Rattle.rp_json_entries.proofs.numbers.SignedNotation.read.Goals as goal

pub returns-in-Some : goal.returns-in-Some
returns-in-Some c =
    if_read_as_text signed_decimal FitsSum (view c.args.value.now) c.in-Some.text.now c.read_i128.result one_sum (search rules) c.read_i128.ensures
