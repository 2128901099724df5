-- The JSON value of a verdict on the generalized axiom of revealed preference (this program's own format).
use Rattle.std.specs.Prelude.{codes}
use Rattle.rp_evidence.specs.declared.garp.Garp.{Garp}
use Rattle.rp_evidence.specs.declared.garp.Garp.TheVariants.{Ranks, Cycle}
use Rattle.serde_json.specs.Data.{Data, object, string, member, no_members}
use Rattle.rp_json_entries.specs.Values.{counts_value, observations_value}

-- ranks, or a violation
abbrev pub garp_value : Garp → Data
garp_value (Ranks ranks) =
    object (member (codes "item") (string (codes "garp")) (member (codes "ranks") (counts_value ranks) no_members))
garp_value (Cycle cycle) =
    object (member (codes "cycle") (observations_value cycle)
    (member (codes "item") (string (codes "garp")) no_members))
