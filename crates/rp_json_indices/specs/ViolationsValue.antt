-- The JSON value of evidence: numbers of pairs of observations that violate an axiom (this program's own format).
use Rattle.std.specs.Prelude.{codes}
use Rattle.rp_fit.specs.declared.violations.ViolationsPart.{ViolationsPart}
use Rattle.serde_json.specs.Data.{Data, object, string, member, no_members}
use Rattle.rp_json_entries.specs.Values.{natural_value}

abbrev pub violations_value : ViolationsPart → Data
violations_value part =
    object (member (codes "garp") (natural_value part.garp)
    (member (codes "item") (string (codes "violations"))
    (member (codes "observations") (natural_value part.observations)
    (member (codes "sarp") (natural_value part.sarp)
    (member (codes "warp") (natural_value part.warp)
    (member (codes "wgarp") (natural_value part.weak_garp)
    no_members))))))
