-- What evidence has to be to prove its verdict on what a table says (sources at each kind of evidence).
use Rattle.rp_evidence.specs.AfriatEvidence.{ProvesOwnAfriat}
use Rattle.rp_evidence.specs.DemandEvidence.{ProvesDemand, ProvesWelfare}
use Rattle.rp_evidence.specs.Efficiency.{ProvesEfficiency}
use Rattle.rp_evidence.specs.Garp.{ProvesOwnGarp}
use Rattle.rp_evidence.specs.Homothetic.{ProvesHomothetic}
use Rattle.rp_evidence.specs.Input.{TableInput}
use Rattle.rp_evidence.specs.Quasilinear.{ProvesQuasilinear}
use Rattle.rp_evidence.specs.declared.certificate.Item.{Item}
use Rattle.rp_evidence.specs.declared.certificate.Item.TheVariants.{Garp as GarpItem, Afriat as AfriatItem}
use Rattle.rp_evidence.specs.declared.certificate.Item.TheVariants.{Efficiency as EfficiencyItem}
use Rattle.rp_evidence.specs.declared.certificate.Item.TheVariants.{Homothetic as HomotheticItem, Quasi as QuasiItem}
use Rattle.rp_evidence.specs.declared.certificate.Item.TheVariants.{Demand as DemandItem, Welfare as WelfareItem}
use Rattle.rp_evidence.specs.declared.certificate.Item.TheVariants.{Random as RandomItem}

-- An item proves its verdict: the axiom and Afriat's numbers by the levels of the observations' own, where they have
-- them; every other one by what was spent. On a table a random item proves nothing.
abbrev pub Proves : TableInput → Item → Type 0
Proves input (GarpItem verdict) = ProvesOwnGarp input.n input.levels input.cost verdict
Proves input (AfriatItem part) = ProvesOwnAfriat input.n input.levels input.cost part
Proves input (EfficiencyItem evidence) = ProvesEfficiency input.n input.cost evidence
Proves input (HomotheticItem verdict) = ProvesHomothetic input.n input.cost verdict
Proves input (QuasiItem verdict) = ProvesQuasilinear input.n input.cost verdict
Proves input (DemandItem prices m part) = ProvesDemand input prices m part
Proves input (WelfareItem prices of part) = ProvesWelfare input prices of part
Proves input (RandomItem total part) = ⊥
