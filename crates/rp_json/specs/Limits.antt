-- The limits within which an item is read back (this program's own format).
use Rattle.rp_evidence.specs.declared.certificate.Item.{Item}
use Rattle.rp_evidence.specs.declared.certificate.Item.TheVariants.{Garp as GarpItem, Afriat as AfriatItem}
use Rattle.rp_evidence.specs.declared.certificate.Item.TheVariants.{Efficiency as EfficiencyItem}
use Rattle.rp_evidence.specs.declared.certificate.Item.TheVariants.{Homothetic as HomotheticItem, Quasi as QuasiItem}
use Rattle.rp_evidence.specs.declared.certificate.Item.TheVariants.{Demand as DemandItem, Welfare as WelfareItem}
use Rattle.rp_evidence.specs.declared.certificate.Item.TheVariants.{Random as RandomItem}
use Rattle.rp_json_tests.specs.Limits.{FitsGarp, FitsAfriat, FitsEfficiency, FitsHomothetic, FitsQuasilinear}
use Rattle.rp_json_programs.specs.Limits.{FitsDemand, FitsWelfare, FitsRandom}

abbrev pub FitsItem : Item → Type 0
FitsItem (GarpItem evidence) = FitsGarp evidence
FitsItem (AfriatItem evidence) = FitsAfriat evidence
FitsItem (EfficiencyItem evidence) = FitsEfficiency evidence
FitsItem (HomotheticItem evidence) = FitsHomothetic evidence
FitsItem (QuasiItem evidence) = FitsQuasilinear evidence
FitsItem (DemandItem prices m evidence) = FitsDemand prices m evidence
FitsItem (WelfareItem prices of evidence) = FitsWelfare prices of evidence
FitsItem (RandomItem total evidence) = FitsRandom total evidence
