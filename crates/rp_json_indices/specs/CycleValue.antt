-- The JSON value of a closed walk with its weight (this program's own format).
use Rattle.std.specs.Prelude.{codes}
use Rattle.rp_fit.specs.declared.weighted.WeightedWalk.{WeightedWalk}
use Rattle.serde_json.specs.Data.{Data, object, member, no_members}
use Rattle.rp_json_entries.specs.Values.{natural_value, observations_value}

abbrev pub cycle_value : WeightedWalk → Data
cycle_value each =
    object (member (codes "cycle") (observations_value each.walk)
    (member (codes "weight") (natural_value each.weight) no_members))
