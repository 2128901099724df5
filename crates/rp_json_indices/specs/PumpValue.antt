-- The JSON value of evidence: the maximum money pump ratio (this program's own format).
use Rattle.std.specs.Prelude.{codes}
use Rattle.rp_fit.specs.declared.pump.PumpPart.{PumpPart}
use Rattle.serde_json.specs.Data.{Data, object, string, member, no_members}
use Rattle.rp_json_entries.specs.Values.{natural_value, observations_value, sums_value}

abbrev pub pump_value : PumpPart → Data
pump_value part =
    object (member (codes "cycle") (observations_value part.cycle)
    (member (codes "den") (natural_value part.den)
    (member (codes "item") (string (codes "pump"))
    (member (codes "num") (natural_value part.num)
    (member (codes "values") (sums_value part.values)
    no_members)))))
