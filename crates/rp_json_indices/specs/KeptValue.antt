-- The JSON value of evidence: the most observations that are consistent (this program's own format).
use Rattle.std.specs.Prelude.{codes}
use Rattle.rp_fit.specs.declared.kept.KeptPart.{KeptPart}
use Rattle.serde_json.specs.Data.{Data, object, string, member, no_members}
use Rattle.rp_json_entries.specs.Values.{counts_value, list_value, natural_value, observations_value}
use Rattle.rp_json_indices.specs.GroupValue.{group_value}

abbrev pub kept_value : KeptPart → Data
kept_value part =
    object (member (codes "den") (natural_value part.den)
    (member (codes "groups") (list_value group_value part.groups)
    (member (codes "item") (string (codes "kept"))
    (member (codes "kept") (observations_value part.kept)
    (member (codes "most") (natural_value part.most)
    (member (codes "ranks") (counts_value part.ranks)
    no_members))))))
