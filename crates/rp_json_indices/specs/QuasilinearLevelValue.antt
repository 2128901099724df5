-- The JSON value of evidence: the level of the quasilinear test (this program's own format).
use Rattle.std.specs.Prelude.{codes}
use Rattle.rp_fit.specs.declared.quasilinear_level.QuasilinearLevelPart.{QuasilinearLevelPart}
use Rattle.serde_json.specs.Data.{Data, object, string, member, no_members}
use Rattle.rp_json_entries.specs.Values.{natural_value, observations_value, sums_value}

abbrev pub quasilinear_level_value : QuasilinearLevelPart → Data
quasilinear_level_value part =
    object (member (codes "cycle") (observations_value part.walk)
    (member (codes "den") (natural_value part.den)
    (member (codes "item") (string (codes "quasilinear_level"))
    (member (codes "num") (natural_value part.num)
    (member (codes "values") (sums_value part.values)
    no_members)))))
