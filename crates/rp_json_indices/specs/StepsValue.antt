-- The JSON value of evidence: the minimum cost of steps (this program's own format).
use Rattle.std.specs.Prelude.{codes}
use Rattle.rp_fit.specs.declared.steps.StepsPart.{StepsPart}
use Rattle.serde_json.specs.Data.{Data, object, string, member, no_members}
use Rattle.rp_json_entries.specs.Values.{counts_value, list_value, natural_value, observations_value}
use Rattle.rp_json_indices.specs.CycleValue.{cycle_value}

abbrev pub steps_value : StepsPart → Data
steps_value part =
    object (member (codes "cost") (natural_value part.cost)
    (member (codes "cycles") (list_value cycle_value part.walks)
    (member (codes "den") (natural_value part.den)
    (member (codes "item") (string (codes "steps"))
    (member (codes "ranks") (counts_value part.ranks)
    (member (codes "taken") (list_value observations_value part.taken)
    no_members))))))
