-- When an item of a certificate on a table fails (this program's own order of clauses; sources at each kind of
-- evidence).
use Rattle.std.specs.Prelude.{◌||◌, Bool, true, false, List, [], ◌∷◌}
use Rattle.rp_clauses.specs.AfriatFailure.{AfriatFails}
use Rattle.rp_evidence.specs.Clauses.{Finding, InOrder}
use Rattle.rp_check.specs.DemandFailure.{DemandFails}
use Rattle.rp_clauses.specs.EfficiencyFailure.{EfficiencyFails}
use Rattle.rp_clauses.specs.GarpFailure.{GarpFails}
use Rattle.rp_clauses.specs.HomotheticFailure.{HomotheticFails}
use Rattle.rp_clauses.specs.QuasilinearFailure.{QuasilinearFails}
use Rattle.rp_check.specs.WelfareFailure.{WelfareFails}
use Rattle.rp_check.specs.LevelsFailure.{SomeLevelsFail}
use Rattle.rp_evidence.specs.Input.{TableInput}
use Rattle.rp_evidence.specs.Preference.{StrictByLevels, WeakByLevels}
use Rattle.rp_evidence.specs.declared.certificate.Item.{Item}
use Rattle.rp_evidence.specs.declared.certificate.Item.TheVariants.{Garp as GarpItem, Afriat as AfriatItem}
use Rattle.rp_evidence.specs.declared.certificate.Item.TheVariants.{Efficiency as EfficiencyItem}
use Rattle.rp_evidence.specs.declared.certificate.Item.TheVariants.{Homothetic as HomotheticItem, Quasi as QuasiItem}
use Rattle.rp_evidence.specs.declared.certificate.Item.TheVariants.{Demand as DemandItem, Welfare as WelfareItem}
use Rattle.rp_evidence.specs.declared.certificate.Item.TheVariants.{Random as RandomItem}
use Rattle.rp_evidence.specs.declared.garp.Garp.TheVariants.{Ranks}

-- The item shows by ranks that the axiom holds.
abbrev pub shows_garp : Item → Bool
shows_garp (GarpItem (Ranks ranks)) = true
shows_garp _ = false

-- One of the items does.
abbrev pub one_shows_garp : List Item → Bool
one_shows_garp [] = false
one_shows_garp (item ∷ rest) = shows_garp item || one_shows_garp rest

-- What is found wrong with an item; `garp_shown` says whether an item before it shows by ranks that the axiom holds.
-- Demand and welfare are about tables without levels. A certificate on a table has no random item.
abbrev pub ItemFails : TableInput → Bool → Item → Finding
ItemFails input garp_shown (GarpItem evidence) =
    GarpFails input.n (WeakByLevels input.levels input.cost) (StrictByLevels input.levels input.cost) evidence
ItemFails input garp_shown (AfriatItem evidence) = AfriatFails input.n input.levels input.cost evidence
ItemFails input garp_shown (EfficiencyItem evidence) = EfficiencyFails input.n input.cost evidence
ItemFails input garp_shown (HomotheticItem evidence) = HomotheticFails input.n input.cost evidence
ItemFails input garp_shown (QuasiItem evidence) = QuasilinearFails input.n input.cost evidence
ItemFails input garp_shown (DemandItem prices m evidence) =
    InOrder (SomeLevelsFail input.levels ∷ DemandFails input garp_shown prices m evidence ∷ [])
ItemFails input garp_shown (WelfareItem prices of evidence) =
    InOrder (SomeLevelsFail input.levels ∷ WelfareFails input garp_shown prices of evidence ∷ [])
ItemFails input garp_shown (RandomItem total evidence) = InOrder []
