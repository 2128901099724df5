-- The JSON value of evidence by Afriat's theorem (this program's own format).
use Rattle.std.specs.Prelude.{codes}
use Rattle.rp_evidence.specs.declared.afriat.AfriatPart.{AfriatPart}
use Rattle.rp_evidence.specs.declared.afriat.AfriatPart.TheVariants.{Model, NoModel, Wide}
use Rattle.serde_json.specs.Data.{Data, object, string, member, no_members}
use Rattle.rp_json_entries.specs.Values.{naturals_value, observation_value, observations_value, sums_value}

-- the numbers of a model, a violation for which there is none, or where a number passed its width
abbrev pub afriat_value : AfriatPart → Data
afriat_value (Model numbers) = object (member (codes "item") (string (codes "afriat"))
    (member (codes "lambda") (naturals_value numbers.lambda)
    (member (codes "utility") (sums_value numbers.u) no_members)))
afriat_value (NoModel cycle) =
    object (member (codes "cycle") (observations_value cycle)
    (member (codes "item") (string (codes "afriat")) no_members))
afriat_value (Wide at) =
    object (member (codes "item") (string (codes "afriat"))
    (member (codes "withheld") (observation_value at) no_members))
