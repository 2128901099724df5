-- The JSON value of a certificate and its text (this program's own format). The keys stand in the order of their bytes.
use Rattle.std.specs.Prelude.{◌==◌, ℕ, List, [], ◌∷◌, ◌++◌, codes, if◌then◌else◌, map}
use Rattle.rp_evidence.specs.declared.certificate.Certificate.{Certificate}
use Rattle.rp_evidence.specs.declared.certificate.Item.{Item}
use Rattle.rp_evidence.specs.declared.certificate.Item.TheVariants.{Garp as GarpItem, Afriat as AfriatItem}
use Rattle.rp_evidence.specs.declared.certificate.Item.TheVariants.{Efficiency as EfficiencyItem}
use Rattle.rp_evidence.specs.declared.certificate.Item.TheVariants.{Homothetic as HomotheticItem, Quasi as QuasiItem}
use Rattle.rp_evidence.specs.declared.certificate.Item.TheVariants.{Demand as DemandItem, Welfare as WelfareItem}
use Rattle.rp_evidence.specs.declared.certificate.Item.TheVariants.{Random as RandomItem}
use Rattle.rp_evidence.specs.declared.certificate.Kind.{Kind}
use Rattle.rp_evidence.specs.declared.certificate.Kind.TheVariants.{Table, Random}
use Rattle.serde_json.specs.Data.{Data, Members, array, object, string, member, no_members}
use Rattle.serde_json.specs.View.{items_of}
use Rattle.serde_json.specs.Written.{compact_text}
use Rattle.rp_json_tests.specs.AfriatValue.{afriat_value}
use Rattle.rp_json_programs.specs.DemandValue.{demand_value, welfare_value}
use Rattle.rp_json_tests.specs.EfficiencyValue.{efficiency_value}
use Rattle.rp_json_tests.specs.GarpValue.{garp_value}
use Rattle.rp_json_tests.specs.HomotheticValue.{homothetic_value}
use Rattle.rp_json_tests.specs.QuasilinearValue.{quasilinear_value}
use Rattle.rp_json_programs.specs.RandomValue.{random_value}
use Rattle.rp_json_entries.specs.Values.{count_value, counts_value}

-- an item
abbrev pub item_value : Item → Data
item_value (GarpItem evidence) = garp_value evidence
item_value (AfriatItem evidence) = afriat_value evidence
item_value (EfficiencyItem evidence) = efficiency_value evidence
item_value (HomotheticItem evidence) = homothetic_value evidence
item_value (QuasiItem evidence) = quasilinear_value evidence
item_value (DemandItem prices m evidence) = demand_value prices m evidence
item_value (WelfareItem prices of evidence) = welfare_value prices of evidence
item_value (RandomItem total evidence) = random_value total evidence

-- what a certificate is about
abbrev pub kind_name : Kind → List ℕ
kind_name Table = codes "table"
kind_name Random = codes "random"

-- the levels of observations, which version 2 alone has, before other members
abbrev pub levels_before : ℕ → List ℕ → Members → Members
levels_before version levels others =
    if version == 2 then member (codes "levels") (counts_value levels) others else others

-- an object with this kind, this version, these levels and these items
abbrev pub top_value : Kind → ℕ → List ℕ → List Data → Data
top_value kind version levels items = object (member (codes "items") (array (items_of items))
    (member (codes "kind") (string (kind_name kind))
    (levels_before version levels (member (codes "version") (count_value version) no_members))))

-- a certificate
abbrev pub certificate_value : Certificate → Data
certificate_value c = top_value c.kind c.version c.levels (map item_value c.items)

-- its text: the value with no space, and a line feed
abbrev pub certificate_text : Certificate → List ℕ
certificate_text c = compact_text (certificate_value c) ++ 10 ∷ []
