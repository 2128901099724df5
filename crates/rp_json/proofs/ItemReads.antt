-- What is read of an item: no two kinds of items have one value.
use Rattle.std.proofs.Common.{◌≡◌, ◌≢◌, ℕ, List, [], ◌∷◌, Some, None, refl, sym, ap, ◌∙◌, arith, ◌==◌, if◌then◌else◌}
use Rattle.rp_evidence.specs.declared.afriat.AfriatPart.{AfriatPart}
use Rattle.rp_evidence.specs.declared.afriat.AfriatPart.TheVariants.{Model, NoModel as NoNumbers, Wide as WideNumbers}
use Rattle.rp_evidence.specs.declared.certificate.Item.{Item}
use Rattle.rp_evidence.specs.declared.certificate.Item.TheVariants.{Garp as GarpItem, Afriat as AfriatItem, Efficiency as EfficiencyItem, Homothetic as HomotheticItem, Quasi as QuasiItem, Demand as DemandItem, Welfare as WelfareItem, Random as RandomItem}
use Rattle.rp_evidence.specs.declared.certificate.Kind.TheVariants.{Table, Random as RandomKind}
use Rattle.rp_evidence.specs.declared.demand.DemandPart.{DemandPart}
use Rattle.rp_evidence.specs.declared.demand.DemandPart.TheVariants.{Bounds, NoModel as NoDemand}
use Rattle.rp_evidence.specs.declared.demand.WelfarePart.{WelfarePart}
use Rattle.rp_evidence.specs.declared.demand.WelfarePart.TheVariants.{Bounds as WelfareBounds, NoModel as NoWelfare}
use Rattle.rp_evidence.specs.declared.efficiency.Efficiency.{Efficiency}
use Rattle.rp_evidence.specs.declared.garp.Garp.{Garp}
use Rattle.rp_evidence.specs.declared.garp.Garp.TheVariants.{Ranks, Cycle}
use Rattle.rp_evidence.specs.declared.homothetic.Homothetic.{Homothetic}
use Rattle.rp_evidence.specs.declared.homothetic.Homothetic.TheVariants.{Values, Cycle as Falls, Withheld}
use Rattle.rp_evidence.specs.declared.quasilinear.Quasi.{Quasi}
use Rattle.rp_evidence.specs.declared.quasilinear.Quasi.TheVariants.{Values as Sums, Cycle as Negative}
use Rattle.rp_evidence.specs.declared.random.RandomPart.{RandomPart}
use Rattle.rp_evidence.specs.declared.random.RandomPart.TheVariants.{Mixture, Violated, Wide as WideRandom}
use Rattle.serde_json.specs.Data.{Data, Members, member, no_members, object, string}
use Rattle.rp_json_tests.specs.AfriatValue.{afriat_value}
use Rattle.rp_json.specs.CertificateValue.{item_value}
use Rattle.rp_json.specs.Denoted.{FitsKind}
use Rattle.rp_json_tests.specs.EfficiencyValue.{efficiency_value}
use Rattle.rp_json_tests.specs.GarpValue.{garp_value}
use Rattle.rp_json_tests.specs.HomotheticValue.{homothetic_value}
use Rattle.rp_json_tests.specs.Limits.{FitsAfriat, FitsEfficiency, FitsGarp, FitsHomothetic, FitsQuasilinear}
use Rattle.rp_json_tests.specs.QuasilinearValue.{quasilinear_value}
use Rattle.rp_json_entries.specs.Reading.{IsFound}
use Rattle.rp_json_programs.proofs.DemandReads.{FitsDemandOf, demand_of}
use Rattle.rp_json_programs.proofs.RandomReads.{FitsRandomOf, random_of}
use Rattle.rp_json_programs.proofs.WelfareReads.{FitsWelfareOf, welfare_of}

-- the first letter of the name in the member `item`, which is the only name that begins with i
abbrev first_letter_or : ℕ → Data → ℕ
first_letter_or other (string (letter ∷ letters)) = letter
first_letter_or other _ = other

abbrev letter_in : Members → ℕ
letter_in no_members = 0
letter_in (member [] d ms) = letter_in ms
letter_in (member (k ∷ name) d ms) = if k == 105 then first_letter_or (letter_in ms) d else letter_in ms

abbrev letter : Data → ℕ
letter (object ms) = letter_in ms
letter _ = 0

-- the first letter of an item's name
abbrev letter_of : Item → ℕ
letter_of (GarpItem v) = 103
letter_of (AfriatItem v) = 97
letter_of (EfficiencyItem v) = 101
letter_of (HomotheticItem v) = 104
letter_of (QuasiItem v) = 113
letter_of (DemandItem prices m part) = 100
letter_of (WelfareItem prices of part) = 119
letter_of (RandomItem total part) = 114

garp_letter : (v : Garp) → letter (garp_value v) ≡ 103
garp_letter (Ranks ranks) = refl
garp_letter (Cycle walk) = refl

afriat_letter : (v : AfriatPart) → letter (afriat_value v) ≡ 97
afriat_letter (Model numbers) = refl
afriat_letter (NoNumbers walk) = refl
afriat_letter (WideNumbers at) = refl

efficiency_letter : (v : Efficiency) → letter (efficiency_value v) ≡ 101
efficiency_letter v = go v.at
  where
    go : (at : Garp) → letter (efficiency_value (record { level = v.level; below = v.below; above = v.above; at = at })) ≡ 101
    go (Ranks ranks) = refl
    go (Cycle walk) = refl

homothetic_letter : (v : Homothetic) → letter (homothetic_value v) ≡ 104
homothetic_letter (Values values) = refl
homothetic_letter (Falls start walk) = refl
homothetic_letter (Withheld steps from to) = refl

quasilinear_letter : (v : Quasi) → letter (quasilinear_value v) ≡ 113
quasilinear_letter (Sums values) = refl
quasilinear_letter (Negative walk) = refl

item_letter : (x : Item) → letter (item_value x) ≡ letter_of x
item_letter (GarpItem v) = garp_letter v
item_letter (AfriatItem v) = afriat_letter v
item_letter (EfficiencyItem v) = efficiency_letter v
item_letter (HomotheticItem v) = homothetic_letter v
item_letter (QuasiItem v) = quasilinear_letter v
item_letter (DemandItem prices m (Bounds below strict inner goods)) = refl
item_letter (DemandItem prices m (NoDemand walk)) = refl
item_letter (WelfareItem prices of (WelfareBounds upper at lower)) = refl
item_letter (WelfareItem prices of (NoWelfare walk)) = refl
item_letter (RandomItem total (Mixture den parts)) = refl
item_letter (RandomItem total (Violated den parts weights)) = refl
item_letter (RandomItem total (WideRandom step)) = refl

-- items of one value have names of one letter
unlike : (x y : Item) → item_value x ≡ item_value y → letter_of x ≢ letter_of y → ⊥
unlike x y e other = other (sym (item_letter x) ∙ ap letter e ∙ item_letter y)

pub found_garp : (d : Data) (v : Garp) → IsFound garp_value FitsGarp d (Some v) → IsFound item_value (FitsKind Table) d (Some (GarpItem v))
found_garp d v r = (r.0, (tt, r.1), only)
  where
    only : (y : Item) → FitsKind Table y → item_value y ≡ d → y ≡ GarpItem v
    only (GarpItem w) h e = ap GarpItem (r.2 w h.1 e)
    only (AfriatItem w) h e = absurd (unlike (AfriatItem w) (GarpItem v) (e ∙ sym r.0) (λ q. omega (arith, q)))
    only (EfficiencyItem w) h e = absurd (unlike (EfficiencyItem w) (GarpItem v) (e ∙ sym r.0) (λ q. omega (arith, q)))
    only (HomotheticItem w) h e = absurd (unlike (HomotheticItem w) (GarpItem v) (e ∙ sym r.0) (λ q. omega (arith, q)))
    only (QuasiItem w) h e = absurd (unlike (QuasiItem w) (GarpItem v) (e ∙ sym r.0) (λ q. omega (arith, q)))
    only (DemandItem prices m part) h e = absurd (unlike (DemandItem prices m part) (GarpItem v) (e ∙ sym r.0) (λ q. omega (arith, q)))
    only (WelfareItem prices of part) h e = absurd (unlike (WelfareItem prices of part) (GarpItem v) (e ∙ sym r.0) (λ q. omega (arith, q)))
    only (RandomItem total part) h e = absurd h.0

pub found_afriat : (d : Data) (v : AfriatPart) → IsFound afriat_value FitsAfriat d (Some v) → IsFound item_value (FitsKind Table) d (Some (AfriatItem v))
found_afriat d v r = (r.0, (tt, r.1), only)
  where
    only : (y : Item) → FitsKind Table y → item_value y ≡ d → y ≡ AfriatItem v
    only (GarpItem w) h e = absurd (unlike (GarpItem w) (AfriatItem v) (e ∙ sym r.0) (λ q. omega (arith, q)))
    only (AfriatItem w) h e = ap AfriatItem (r.2 w h.1 e)
    only (EfficiencyItem w) h e = absurd (unlike (EfficiencyItem w) (AfriatItem v) (e ∙ sym r.0) (λ q. omega (arith, q)))
    only (HomotheticItem w) h e = absurd (unlike (HomotheticItem w) (AfriatItem v) (e ∙ sym r.0) (λ q. omega (arith, q)))
    only (QuasiItem w) h e = absurd (unlike (QuasiItem w) (AfriatItem v) (e ∙ sym r.0) (λ q. omega (arith, q)))
    only (DemandItem prices m part) h e = absurd (unlike (DemandItem prices m part) (AfriatItem v) (e ∙ sym r.0) (λ q. omega (arith, q)))
    only (WelfareItem prices of part) h e = absurd (unlike (WelfareItem prices of part) (AfriatItem v) (e ∙ sym r.0) (λ q. omega (arith, q)))
    only (RandomItem total part) h e = absurd h.0

pub found_efficiency : (d : Data) (v : Efficiency) → IsFound efficiency_value FitsEfficiency d (Some v) → IsFound item_value (FitsKind Table) d (Some (EfficiencyItem v))
found_efficiency d v r = (r.0, (tt, r.1), only)
  where
    only : (y : Item) → FitsKind Table y → item_value y ≡ d → y ≡ EfficiencyItem v
    only (GarpItem w) h e = absurd (unlike (GarpItem w) (EfficiencyItem v) (e ∙ sym r.0) (λ q. omega (arith, q)))
    only (AfriatItem w) h e = absurd (unlike (AfriatItem w) (EfficiencyItem v) (e ∙ sym r.0) (λ q. omega (arith, q)))
    only (EfficiencyItem w) h e = ap EfficiencyItem (r.2 w h.1 e)
    only (HomotheticItem w) h e = absurd (unlike (HomotheticItem w) (EfficiencyItem v) (e ∙ sym r.0) (λ q. omega (arith, q)))
    only (QuasiItem w) h e = absurd (unlike (QuasiItem w) (EfficiencyItem v) (e ∙ sym r.0) (λ q. omega (arith, q)))
    only (DemandItem prices m part) h e = absurd (unlike (DemandItem prices m part) (EfficiencyItem v) (e ∙ sym r.0) (λ q. omega (arith, q)))
    only (WelfareItem prices of part) h e = absurd (unlike (WelfareItem prices of part) (EfficiencyItem v) (e ∙ sym r.0) (λ q. omega (arith, q)))
    only (RandomItem total part) h e = absurd h.0

pub found_homothetic : (d : Data) (v : Homothetic) → IsFound homothetic_value FitsHomothetic d (Some v) → IsFound item_value (FitsKind Table) d (Some (HomotheticItem v))
found_homothetic d v r = (r.0, (tt, r.1), only)
  where
    only : (y : Item) → FitsKind Table y → item_value y ≡ d → y ≡ HomotheticItem v
    only (GarpItem w) h e = absurd (unlike (GarpItem w) (HomotheticItem v) (e ∙ sym r.0) (λ q. omega (arith, q)))
    only (AfriatItem w) h e = absurd (unlike (AfriatItem w) (HomotheticItem v) (e ∙ sym r.0) (λ q. omega (arith, q)))
    only (EfficiencyItem w) h e = absurd (unlike (EfficiencyItem w) (HomotheticItem v) (e ∙ sym r.0) (λ q. omega (arith, q)))
    only (HomotheticItem w) h e = ap HomotheticItem (r.2 w h.1 e)
    only (QuasiItem w) h e = absurd (unlike (QuasiItem w) (HomotheticItem v) (e ∙ sym r.0) (λ q. omega (arith, q)))
    only (DemandItem prices m part) h e = absurd (unlike (DemandItem prices m part) (HomotheticItem v) (e ∙ sym r.0) (λ q. omega (arith, q)))
    only (WelfareItem prices of part) h e = absurd (unlike (WelfareItem prices of part) (HomotheticItem v) (e ∙ sym r.0) (λ q. omega (arith, q)))
    only (RandomItem total part) h e = absurd h.0

pub found_quasilinear : (d : Data) (v : Quasi) → IsFound quasilinear_value FitsQuasilinear d (Some v) → IsFound item_value (FitsKind Table) d (Some (QuasiItem v))
found_quasilinear d v r = (r.0, (tt, r.1), only)
  where
    only : (y : Item) → FitsKind Table y → item_value y ≡ d → y ≡ QuasiItem v
    only (GarpItem w) h e = absurd (unlike (GarpItem w) (QuasiItem v) (e ∙ sym r.0) (λ q. omega (arith, q)))
    only (AfriatItem w) h e = absurd (unlike (AfriatItem w) (QuasiItem v) (e ∙ sym r.0) (λ q. omega (arith, q)))
    only (EfficiencyItem w) h e = absurd (unlike (EfficiencyItem w) (QuasiItem v) (e ∙ sym r.0) (λ q. omega (arith, q)))
    only (HomotheticItem w) h e = absurd (unlike (HomotheticItem w) (QuasiItem v) (e ∙ sym r.0) (λ q. omega (arith, q)))
    only (QuasiItem w) h e = ap QuasiItem (r.2 w h.1 e)
    only (DemandItem prices m part) h e = absurd (unlike (DemandItem prices m part) (QuasiItem v) (e ∙ sym r.0) (λ q. omega (arith, q)))
    only (WelfareItem prices of part) h e = absurd (unlike (WelfareItem prices of part) (QuasiItem v) (e ∙ sym r.0) (λ q. omega (arith, q)))
    only (RandomItem total part) h e = absurd h.0

pub found_demand : (d : Data) (v : List ℕ × ℕ × DemandPart) → IsFound demand_of FitsDemandOf d (Some v) → IsFound item_value (FitsKind Table) d (Some (DemandItem v.0 v.1 v.2))
found_demand d v r = (r.0, (tt, r.1), only)
  where
    only : (y : Item) → FitsKind Table y → item_value y ≡ d → y ≡ DemandItem v.0 v.1 v.2
    only (GarpItem w) h e = absurd (unlike (GarpItem w) (DemandItem v.0 v.1 v.2) (e ∙ sym r.0) (λ q. omega (arith, q)))
    only (AfriatItem w) h e = absurd (unlike (AfriatItem w) (DemandItem v.0 v.1 v.2) (e ∙ sym r.0) (λ q. omega (arith, q)))
    only (EfficiencyItem w) h e = absurd (unlike (EfficiencyItem w) (DemandItem v.0 v.1 v.2) (e ∙ sym r.0) (λ q. omega (arith, q)))
    only (HomotheticItem w) h e = absurd (unlike (HomotheticItem w) (DemandItem v.0 v.1 v.2) (e ∙ sym r.0) (λ q. omega (arith, q)))
    only (QuasiItem w) h e = absurd (unlike (QuasiItem w) (DemandItem v.0 v.1 v.2) (e ∙ sym r.0) (λ q. omega (arith, q)))
    only (DemandItem prices m part) h e = ap (λ (z : List ℕ × ℕ × DemandPart). DemandItem z.0 z.1 z.2) (r.2 (prices, m, part) h.1 e)
    only (WelfareItem prices of part) h e = absurd (unlike (WelfareItem prices of part) (DemandItem v.0 v.1 v.2) (e ∙ sym r.0) (λ q. omega (arith, q)))
    only (RandomItem total part) h e = absurd h.0

pub found_welfare : (d : Data) (v : List ℕ × ℕ × WelfarePart) → IsFound welfare_of FitsWelfareOf d (Some v) → IsFound item_value (FitsKind Table) d (Some (WelfareItem v.0 v.1 v.2))
found_welfare d v r = (r.0, (tt, r.1), only)
  where
    only : (y : Item) → FitsKind Table y → item_value y ≡ d → y ≡ WelfareItem v.0 v.1 v.2
    only (GarpItem w) h e = absurd (unlike (GarpItem w) (WelfareItem v.0 v.1 v.2) (e ∙ sym r.0) (λ q. omega (arith, q)))
    only (AfriatItem w) h e = absurd (unlike (AfriatItem w) (WelfareItem v.0 v.1 v.2) (e ∙ sym r.0) (λ q. omega (arith, q)))
    only (EfficiencyItem w) h e = absurd (unlike (EfficiencyItem w) (WelfareItem v.0 v.1 v.2) (e ∙ sym r.0) (λ q. omega (arith, q)))
    only (HomotheticItem w) h e = absurd (unlike (HomotheticItem w) (WelfareItem v.0 v.1 v.2) (e ∙ sym r.0) (λ q. omega (arith, q)))
    only (QuasiItem w) h e = absurd (unlike (QuasiItem w) (WelfareItem v.0 v.1 v.2) (e ∙ sym r.0) (λ q. omega (arith, q)))
    only (DemandItem prices m part) h e = absurd (unlike (DemandItem prices m part) (WelfareItem v.0 v.1 v.2) (e ∙ sym r.0) (λ q. omega (arith, q)))
    only (WelfareItem prices of part) h e = ap (λ (z : List ℕ × ℕ × WelfarePart). WelfareItem z.0 z.1 z.2) (r.2 (prices, of, part) h.1 e)
    only (RandomItem total part) h e = absurd h.0

pub found_random : (d : Data) (v : ℕ × RandomPart) → IsFound random_of FitsRandomOf d (Some v) → IsFound item_value (FitsKind RandomKind) d (Some (RandomItem v.0 v.1))
found_random d v r = (r.0, (tt, r.1), only)
  where
    only : (y : Item) → FitsKind RandomKind y → item_value y ≡ d → y ≡ RandomItem v.0 v.1
    only (GarpItem w) h e = absurd h.0
    only (AfriatItem w) h e = absurd h.0
    only (EfficiencyItem w) h e = absurd h.0
    only (HomotheticItem w) h e = absurd h.0
    only (QuasiItem w) h e = absurd h.0
    only (DemandItem prices m part) h e = absurd h.0
    only (WelfareItem prices of part) h e = absurd h.0
    only (RandomItem total part) h e = ap (λ (z : ℕ × RandomPart). RandomItem z.0 z.1) (r.2 (total, part) h.1 e)

pub no_random : (d : Data) → IsFound random_of FitsRandomOf d None → IsFound item_value (FitsKind RandomKind) d None
no_random d none (GarpItem w) h e = h.0
no_random d none (AfriatItem w) h e = h.0
no_random d none (EfficiencyItem w) h e = h.0
no_random d none (HomotheticItem w) h e = h.0
no_random d none (QuasiItem w) h e = h.0
no_random d none (DemandItem prices m part) h e = h.0
no_random d none (WelfareItem prices of part) h e = h.0
no_random d none (RandomItem total part) h e = none (total, part) h.1 e

pub no_table_item : (d : Data) → IsFound garp_value FitsGarp d None → IsFound afriat_value FitsAfriat d None → IsFound efficiency_value FitsEfficiency d None → IsFound homothetic_value FitsHomothetic d None → IsFound quasilinear_value FitsQuasilinear d None → IsFound demand_of FitsDemandOf d None → IsFound welfare_of FitsWelfareOf d None → IsFound item_value (FitsKind Table) d None
no_table_item d no_garp no_afriat no_efficiency no_homothetic no_quasilinear no_demand no_welfare (GarpItem w) h e = no_garp w h.1 e
no_table_item d no_garp no_afriat no_efficiency no_homothetic no_quasilinear no_demand no_welfare (AfriatItem w) h e = no_afriat w h.1 e
no_table_item d no_garp no_afriat no_efficiency no_homothetic no_quasilinear no_demand no_welfare (EfficiencyItem w) h e = no_efficiency w h.1 e
no_table_item d no_garp no_afriat no_efficiency no_homothetic no_quasilinear no_demand no_welfare (HomotheticItem w) h e = no_homothetic w h.1 e
no_table_item d no_garp no_afriat no_efficiency no_homothetic no_quasilinear no_demand no_welfare (QuasiItem w) h e = no_quasilinear w h.1 e
no_table_item d no_garp no_afriat no_efficiency no_homothetic no_quasilinear no_demand no_welfare (DemandItem prices m part) h e = no_demand (prices, m, part) h.1 e
no_table_item d no_garp no_afriat no_efficiency no_homothetic no_quasilinear no_demand no_welfare (WelfareItem prices of part) h e = no_welfare (prices, of, part) h.1 e
no_table_item d no_garp no_afriat no_efficiency no_homothetic no_quasilinear no_demand no_welfare (RandomItem total part) h e = h.0
