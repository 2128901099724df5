-- The JSON values of bounds, of the pairs that show them, and of points (this program's own format).
use Rattle.std.specs.Prelude.{codes}
use Rattle.rp_evidence.specs.declared.demand.Bound.{Bound}
use Rattle.rp_evidence.specs.declared.demand.Bound.TheVariants.{Shown, Wide}
use Rattle.rp_evidence.specs.declared.demand.GoodBounds.{GoodBounds}
use Rattle.rp_evidence.specs.declared.demand.Point.{Point}
use Rattle.rp_farkas.specs.declared.entry.Entry.{Entry}
use Rattle.serde_json.specs.Data.{Data, array, object, item, no_items, member, no_members}
use Rattle.rp_json_entries.specs.Values.{fraction_value, list_value, natural_value, naturals_value, observation_value}

-- an entry of a point: its column, which is counted from 1, and its value
abbrev pub entry_value : Entry → Data
entry_value entry = array (item (observation_value entry.at) (item (natural_value entry.value) no_items))

-- a bound with the pair of its program, or the step at which the run of the program passes its width
abbrev pub bound_value : Bound → Data
bound_value (Shown value pair) =
    object (member (codes "den") (natural_value pair.den) (member (codes "value") (fraction_value value)
    (member (codes "x") (naturals_value pair.x) (member (codes "y") (list_value entry_value pair.y) no_members))))
bound_value (Wide step) = object (member (codes "withheld") (natural_value step) no_members)

-- both bounds of a good
abbrev pub good_value : GoodBounds → Data
good_value bounds = object
    (member (codes "lower") (bound_value bounds.lower) (member (codes "upper") (bound_value bounds.upper) no_members))

-- a point over its denominator
abbrev pub point_value : Point → Data
point_value point = object
    (member (codes "den") (natural_value point.den) (member (codes "num") (naturals_value point.num) no_members))
