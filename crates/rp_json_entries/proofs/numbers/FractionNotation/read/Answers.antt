use Rattle.std.proofs.Common.{rules}
use Rattle.serde_json.specs.View.{view}
use Rattle.rp_num.specs.Fraction.{fraction_text}
use Rattle.rp_num.specs.Spelled.{IsReduced}
use Rattle.rp_json_entries.proofs.FractionTexts.{one_fraction}
use Rattle.rp_json_entries.proofs.NumberLemmas.{if_read_as_text}
use Rattle.rp_json_entries.proofs.numbers.FractionNotation.read.Goals as goal

pub returns-in-Some : goal.returns-in-Some
returns-in-Some c =
    if_read_as_text fraction_text IsReduced (view c.args.value.now) c.in-Some.text.now c.read_frac.result one_fraction (search rules) c.read_frac.ensures
