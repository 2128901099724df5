-- What is withheld in a certificate, filled with what is found for it (this project's own).
use Rattle.std.specs.Prelude.{◌≡◌, ◌<◌, ◌⊎◌, ℕ, All, List, length, slice_index_or, sum_by}
use Rattle.rp_agreement.specs.ReadBack.{IsReadBack}
use Rattle.rp_check.specs.CheckVerdict.{IsCheckVerdict}
use Rattle.rp_check.specs.declared.verdict.Verdict.TheVariants.{Accepted}
use Rattle.rp_evidence.specs.DemandEvidence.{withheld_bound}
use Rattle.rp_evidence.specs.Homothetic.{withheld_homothetic}
use Rattle.rp_evidence.specs.Input.{TableInput}
use Rattle.rp_evidence.specs.Proves.{Proves}
use Rattle.rp_evidence.specs.Withheld.{withheld_in}
use Rattle.rp_evidence.specs.declared.certificate.Certificate.{Certificate}
use Rattle.rp_evidence.specs.declared.certificate.Item.{Item}
use Rattle.rp_evidence.specs.declared.certificate.Item.TheVariants.{Demand as DemandItem, Homothetic as HomotheticItem}
use Rattle.rp_evidence.specs.declared.certificate.Item.TheVariants.{Welfare as WelfareItem}
use Rattle.rp_evidence.specs.declared.certificate.Kind.TheVariants.{Table}
use Rattle.rp_evidence.specs.declared.demand.Bound.{Bound}
use Rattle.rp_evidence.specs.declared.demand.DemandPart.{DemandPart}
use Rattle.rp_evidence.specs.declared.demand.DemandPart.TheVariants.{Bounds, NoModel}
use Rattle.rp_evidence.specs.declared.demand.GoodBounds.{GoodBounds}
use Rattle.rp_evidence.specs.declared.demand.WelfarePart.{WelfarePart}
use Rattle.rp_evidence.specs.declared.demand.WelfarePart.TheVariants.{Bounds as WelfareBounds, NoModel as NoWelfare}
use Rattle.rp_evidence.specs.declared.homothetic.Homothetic.{Homothetic}
use Rattle.rp_people.specs.Says.{Says}

-- What comes of a value is the value where nothing of it is withheld. Where something is, it is one of which nothing
-- is, or the value still.
pub record IsFilledFrom {A : Type 0} (withheld : A → ℕ) (stated filled : A) : Type 0 where
  pub same : withheld stated ≡ 0 → filled ≡ stated
  pub given : (withheld filled ≡ 0) ⊎ (filled ≡ stated)

-- The verdict of the homothetic test filled: it is proved by its evidence, and says of people what such a verdict says.
pub record IsFilledVerdict (input : TableInput) (stated filled : Homothetic) : Type 0 where
  pub from_stated : IsFilledFrom withheld_homothetic stated filled
  pub proves : Proves input (HomotheticItem filled)
  pub says : Says input (HomotheticItem filled)

-- As many values, each from the one at its place.
pub record AreFilledEach {A : Type 0} (IsFilled : A → A → Type 0) (stated filled : List A) : Type 0 where
  pub one_each : length filled ≡ length stated
  pub each : (k : ℕ) (d e : A) → k < length stated → IsFilled (slice_index_or stated k d) (slice_index_or filled k e)

-- Each of the two bounds of a good from the one of its side.
pub record IsFilledGood (stated filled : GoodBounds) : Type 0 where
  pub lower : IsFilledFrom withheld_bound stated.lower filled.lower
  pub upper : IsFilledFrom withheld_bound stated.upper filled.upper

-- Bounds over the same observations, with the same inner point; a violation is the same one.
abbrev pub IsFilledDemand : DemandPart → DemandPart → Type 0
IsFilledDemand (Bounds below strict inner goods) filled =
    (found : List GoodBounds) × (filled ≡ Bounds below strict inner found) × AreFilledEach IsFilledGood goods found
IsFilledDemand (NoModel walk) filled = filled ≡ NoModel walk

-- The same upper bound at the same observation; a violation is the same one.
abbrev pub IsFilledWelfare : WelfarePart → WelfarePart → Type 0
IsFilledWelfare (WelfareBounds upper at lower) filled =
    (found : Bound) × (filled ≡ WelfareBounds upper at found) × IsFilledFrom withheld_bound lower found
IsFilledWelfare (NoWelfare walk) filled = filled ≡ NoWelfare walk

-- A homothetic item from a homothetic one, demand from demand at the same prices with the same expenditure, welfare
-- from welfare of the same observation at the same prices; every other item is the same one.
abbrev pub IsFilledItem : Item → Item → Type 0
IsFilledItem (HomotheticItem stated) filled =
    (found : Homothetic) × (filled ≡ HomotheticItem found) × IsFilledFrom withheld_homothetic stated found
IsFilledItem (DemandItem prices m stated) filled =
    (found : DemandPart) × (filled ≡ DemandItem prices m found) × IsFilledDemand stated found
IsFilledItem (WelfareItem prices of stated) filled =
    (found : WelfarePart) × (filled ≡ WelfareItem prices of found) × IsFilledWelfare stated found
IsFilledItem stated filled = filled ≡ stated

-- The certificate of a table with each item filled: it is the same one where nothing is withheld, each item proves its
-- verdict and says of people what such a verdict says, the checker accepts it, and its JSON is read back as it.
pub record IsFilledCertificate (input : TableInput) (stated filled : Certificate) : Type 0 where
  pub kind : filled.kind ≡ stated.kind
  pub version : filled.version ≡ stated.version
  pub levels : filled.levels ≡ stated.levels
  pub items : AreFilledEach IsFilledItem stated.items filled.items
  pub same : sum_by withheld_in stated.items ≡ 0 → filled ≡ stated
  pub proves : All (Proves input) filled.items
  pub says : All (Says input) filled.items
  pub accepted : IsCheckVerdict input filled.levels filled.items Accepted
  pub read_back : IsReadBack Table filled
