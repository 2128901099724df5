-- The JSON value of a group of observations with its weight (this program's own format).
use Rattle.std.specs.Prelude.{ℕ, List, codes}
use Rattle.rp_fit.specs.declared.kept.Group.{Group}
use Rattle.rp_fit.specs.declared.kept.GroupKind.{GroupKind}
use Rattle.rp_fit.specs.declared.kept.GroupKind.TheVariants.{Pairs, Cycle}
use Rattle.serde_json.specs.Data.{Data, object, member, no_members}
use Rattle.rp_json_entries.specs.Values.{natural_value, observations_value}

-- the name of the member that has the group's observations: what kind of group they are
abbrev pub group_name : GroupKind → List ℕ
group_name Pairs = codes "pairs"
group_name Cycle = codes "cycle"

abbrev pub group_value : Group → Data
group_value group =
    object (member (group_name group.kind) (observations_value group.members)
    (member (codes "weight") (natural_value group.weight) no_members))
