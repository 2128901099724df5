-- The JSON value of a verdict of the homothetic test (this program's own format).
use Rattle.std.specs.Prelude.{ℕ, codes}
use Rattle.rp_evidence.specs.declared.homothetic.Homothetic.{Homothetic}
use Rattle.rp_evidence.specs.declared.homothetic.Homothetic.TheVariants.{Values, Cycle, Withheld}
use Rattle.serde_json.specs.Data.{Data, array, object, string, item, no_items, member, no_members}
use Rattle.rp_json_entries.specs.Values.{count_value, fraction_value, fractions_value, observation_value}
use Rattle.rp_json_entries.specs.Values.{observations_value}

-- a number of steps, and the observations from and to which the next goes
abbrev pub place_value : ℕ → ℕ → ℕ → Data
place_value steps from to =
    array (item (count_value steps) (item (observation_value from) (item (observation_value to) no_items)))

-- values, a start and a cycle that falls from it, or the product that is too wide
abbrev pub homothetic_value : Homothetic → Data
homothetic_value (Values values) =
    object (member (codes "item") (string (codes "homothetic"))
    (member (codes "values") (fractions_value values) no_members))
homothetic_value (Cycle start steps) = object (member (codes "cycle") (observations_value steps)
    (member (codes "item") (string (codes "homothetic")) (member (codes "start") (fraction_value start) no_members)))
homothetic_value (Withheld steps from to) = object (member (codes "item") (string (codes "homothetic"))
    (member (codes "withheld") (place_value steps from to) no_members))
