-- The JSON value of a verdict of the quasilinear test (this program's own format).
use Rattle.std.specs.Prelude.{codes}
use Rattle.rp_evidence.specs.declared.quasilinear.Quasi.{Quasi}
use Rattle.rp_evidence.specs.declared.quasilinear.Quasi.TheVariants.{Values, Cycle}
use Rattle.serde_json.specs.Data.{Data, object, string, member, no_members}
use Rattle.rp_json_entries.specs.Values.{observations_value, sums_value}

-- values, or a cycle with a negative sum
abbrev pub quasilinear_value : Quasi → Data
quasilinear_value (Values values) =
    object (member (codes "item") (string (codes "quasilinear"))
    (member (codes "values") (sums_value values) no_members))
quasilinear_value (Cycle cycle) =
    object (member (codes "cycle") (observations_value cycle)
    (member (codes "item") (string (codes "quasilinear")) no_members))
