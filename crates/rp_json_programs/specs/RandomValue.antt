-- The JSON value of a verdict on random choices (this program's own format).
use Rattle.std.specs.Prelude.{ℕ, codes}
use Rattle.rp_evidence.specs.declared.random.RandomPart.{RandomPart}
use Rattle.rp_evidence.specs.declared.random.RandomPart.TheVariants.{Mixture, Violated, Wide}
use Rattle.rp_evidence.specs.declared.random.Share.{Share}
use Rattle.serde_json.specs.Data.{Data, array, object, string, item, no_items, member, no_members}
use Rattle.rp_json_entries.specs.Values.{list_value, natural_value, naturals_value, observations_value}

-- a part: the patches of its type, which are counted from 1, and its weight
abbrev pub share_value : Share → Data
share_value share = array (item (observations_value share.patches) (item (natural_value share.weight) no_items))

-- a mixture, a partial mixture with the weights of the patches, or the step at which the run of the program passes its
-- width
abbrev pub random_value : ℕ → RandomPart → Data
random_value total (Mixture den parts) =
    object (member (codes "den") (natural_value den) (member (codes "item") (string (codes "random"))
    (member (codes "parts") (list_value share_value parts) (member (codes "total") (natural_value total) no_members))))
random_value total (Violated den parts weights) =
    object (member (codes "den") (natural_value den) (member (codes "item") (string (codes "random"))
    (member (codes "parts") (list_value share_value parts) (member (codes "total") (natural_value total)
    (member (codes "weights") (naturals_value weights) no_members)))))
random_value total (Wide step) =
    object (member (codes "item") (string (codes "random")) (member (codes "total") (natural_value total)
    (member (codes "withheld") (natural_value step) no_members)))
