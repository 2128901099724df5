-- The JSON value of evidence: levels of the observations' own (this program's own format).
use Rattle.std.specs.Prelude.{codes}
use Rattle.rp_fit.specs.declared.levels.LevelsPart.{LevelsPart}
use Rattle.serde_json.specs.Data.{Data, object, string, member, no_members}
use Rattle.rp_json_entries.specs.Values.{counts_value, list_value, natural_value}
use Rattle.rp_json_indices.specs.CycleValue.{cycle_value}
use Rattle.rp_json_indices.specs.MeasureValue.{measure_value}
use Rattle.rp_json_indices.specs.PlacesValue.{places_value}

abbrev pub levels_value : LevelsPart → Data
levels_value part =
    object (member (codes "at") (places_value part.at)
    (member (codes "cycles") (list_value cycle_value part.walks)
    (member (codes "den") (natural_value part.den)
    (member (codes "item") (string (codes "levels"))
    (member (codes "measure") (measure_value part.lack)
    (member (codes "ranks") (counts_value part.ranks)
    no_members))))))
