-- What a certificate leaves out: values whose computation passed its width (this program's own).
use Rattle.std.specs.Prelude.{ℕ}
use Rattle.rp_evidence.specs.AfriatEvidence.{withheld_afriat}
use Rattle.rp_evidence.specs.DemandEvidence.{withheld_demand, withheld_welfare}
use Rattle.rp_evidence.specs.Homothetic.{withheld_homothetic}
use Rattle.rp_evidence.specs.declared.certificate.Item.{Item}
use Rattle.rp_evidence.specs.declared.certificate.Item.TheVariants.{Garp, Afriat, Efficiency, Homothetic, Quasi}
use Rattle.rp_evidence.specs.declared.certificate.Item.TheVariants.{Demand, Welfare, Random}
use Rattle.rp_evidence.specs.declared.random.RandomPart.{RandomPart}
use Rattle.rp_evidence.specs.declared.random.RandomPart.TheVariants.{Mixture, Violated, Wide}

-- A random item is withheld whole or not at all.
abbrev pub withheld_random : RandomPart → ℕ
withheld_random (Mixture den parts) = 0
withheld_random (Violated den parts weights) = 0
withheld_random (Wide step) = 1

-- How many values of an item are withheld.
abbrev pub withheld_in : Item → ℕ
withheld_in (Garp _) = 0
withheld_in (Afriat part) = withheld_afriat part
withheld_in (Efficiency _) = 0
withheld_in (Homothetic verdict) = withheld_homothetic verdict
withheld_in (Quasi _) = 0
withheld_in (Demand _ _ part) = withheld_demand part
withheld_in (Welfare _ _ part) = withheld_welfare part
withheld_in (Random _ part) = withheld_random part
