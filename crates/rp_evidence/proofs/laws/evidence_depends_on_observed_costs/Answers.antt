use Rattle.rp_evidence.proofs.OwnLevels.{own_garp_same}
use Rattle.rp_evidence.proofs.SameAfriat.{afriat_same, own_afriat_same}
use Rattle.rp_evidence.proofs.SameCosts.{garp_same}
use Rattle.rp_evidence.proofs.SameIndex.{efficiency_same}
use Rattle.rp_evidence.proofs.SameProducts.{homothetic_same}
use Rattle.rp_evidence.proofs.SameSums.{quasilinear_same}
use Rattle.rp_evidence.proofs.laws.evidence_depends_on_observed_costs.Goals as goal

pub returns-clause-garp : goal.returns-clause-garp
returns-clause-garp c = garp_same

pub returns-clause-afriat : goal.returns-clause-afriat
returns-clause-afriat c = afriat_same

pub returns-clause-efficiency : goal.returns-clause-efficiency
returns-clause-efficiency c = efficiency_same

pub returns-clause-homothetic : goal.returns-clause-homothetic
returns-clause-homothetic c = homothetic_same

pub returns-clause-quasilinear : goal.returns-clause-quasilinear
returns-clause-quasilinear c = quasilinear_same

pub returns-clause-garp_by_levels : goal.returns-clause-garp_by_levels
returns-clause-garp_by_levels c = λ n levels c d verdict same. own_garp_same n levels c d same verdict

pub returns-clause-afriat_by_levels : goal.returns-clause-afriat_by_levels
returns-clause-afriat_by_levels c = own_afriat_same
