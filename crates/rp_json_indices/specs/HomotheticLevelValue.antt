-- The JSON value of evidence: bounds on the level of the homothetic test (this program's own format).
use Rattle.std.specs.Prelude.{codes}
use Rattle.rp_fit.specs.declared.homothetic_level.HomotheticLevelPart.{HomotheticLevelPart}
use Rattle.serde_json.specs.Data.{Data, object, string, member, no_members}
use Rattle.rp_json_entries.specs.Values.{natural_value, naturals_value, observations_value}

abbrev pub homothetic_level_value : HomotheticLevelPart → Data
homothetic_level_value part =
    object (member (codes "cycle") (observations_value part.walk)
    (member (codes "high") (natural_value part.high)
    (member (codes "item") (string (codes "homothetic_level"))
    (member (codes "low") (natural_value part.low)
    (member (codes "values") (naturals_value part.values)
    no_members)))))
