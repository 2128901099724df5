-- The JSON value of an efficiency index with its evidence (this program's own format).
use Rattle.std.specs.Prelude.{codes}
use Rattle.rp_evidence.specs.declared.efficiency.Efficiency.{Efficiency}
use Rattle.rp_evidence.specs.declared.garp.Garp.{Garp}
use Rattle.rp_evidence.specs.declared.garp.Garp.TheVariants.{Ranks, Cycle}
use Rattle.rp_evidence.specs.declared.level.Level.{Level}
use Rattle.serde_json.specs.Data.{Data, Members, object, string, member, no_members}
use Rattle.rp_json_entries.specs.Values.{counts_value, fraction_value, observations_value}

-- a level with its parts as they stand
abbrev pub level_value : Level → Data
level_value level = fraction_value (record { num = level.num; den = level.den })

-- the members below the evidence at the index
abbrev pub below_members : Efficiency → Members
below_members evidence =
    member (codes "below") (counts_value evidence.below) (member (codes "item") (string (codes "efficiency"))
    (member (codes "level") (level_value evidence.level) no_members))

-- the members from the evidence at the index on
abbrev pub at_members : Garp → Members → Members
at_members (Ranks ranks) others = member (codes "at_ranks") (counts_value ranks) others
at_members (Cycle cycle) others = member (codes "at_cycle") (observations_value cycle) others

-- the index, and what shows it below, above and at it
abbrev pub efficiency_value : Efficiency → Data
efficiency_value evidence =
    object (member (codes "above") (observations_value evidence.above)
    (at_members evidence.at (below_members evidence)))
