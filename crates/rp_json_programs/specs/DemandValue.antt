-- The JSON values of demand at new prices and of the welfare bounds (this program's own format).
use Rattle.std.specs.Prelude.{ℕ, List, codes}
use Rattle.rp_evidence.specs.declared.demand.DemandPart.{DemandPart}
use Rattle.rp_evidence.specs.declared.demand.DemandPart.TheVariants.{Bounds, NoModel}
use Rattle.rp_evidence.specs.declared.demand.WelfarePart.{WelfarePart}
use Rattle.rp_evidence.specs.declared.demand.WelfarePart.TheVariants.{Bounds as WelfareBounds, NoModel as NoWelfare}
use Rattle.serde_json.specs.Data.{Data, object, string, member, no_members}
use Rattle.rp_json_programs.specs.BoundValue.{bound_value, good_value, point_value}
use Rattle.rp_json_entries.specs.Values.{list_value, natural_value, naturals_value, observation_value, observations_value}

-- the bounds on demand at these prices and this expenditure, or a violation for which there are none
abbrev pub demand_value : List ℕ → ℕ → DemandPart → Data
demand_value prices m (Bounds below strict inner goods) = object (member (codes "below") (observations_value below)
    (member (codes "expenditure") (natural_value m) (member (codes "goods") (list_value good_value goods)
    (member (codes "inner") (point_value inner) (member (codes "item") (string (codes "demand"))
    (member (codes "prices") (naturals_value prices)
    (member (codes "strict") (observations_value strict) no_members)))))))
demand_value prices m (NoModel cycle) = object (member (codes "cycle") (observations_value cycle)
    (member (codes "expenditure") (natural_value m) (member (codes "item") (string (codes "demand"))
    (member (codes "prices") (naturals_value prices) no_members))))

-- the welfare bounds of an observation at these prices, or a violation for which there are none
abbrev pub welfare_value : List ℕ → ℕ → WelfarePart → Data
welfare_value prices of (WelfareBounds upper at lower) = object (member (codes "at") (observation_value at)
    (member (codes "item") (string (codes "welfare")) (member (codes "lower") (bound_value lower)
    (member (codes "observation") (observation_value of) (member (codes "prices") (naturals_value prices)
    (member (codes "upper") (natural_value upper) no_members))))))
welfare_value prices of (NoWelfare cycle) = object (member (codes "cycle") (observations_value cycle)
    (member (codes "item") (string (codes "welfare")) (member (codes "observation") (observation_value of)
    (member (codes "prices") (naturals_value prices) no_members))))
