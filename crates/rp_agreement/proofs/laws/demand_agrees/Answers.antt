use Rattle.rp_agreement.proofs.AcceptedBounds.{demand_passes}
use Rattle.rp_check.specs.ItemFailure.{shows_garp}
use Rattle.rp_evidence.specs.declared.certificate.Item.TheVariants.{Garp as GarpItem}
use Rattle.rp_agreement.proofs.BoundsFit.{demand_fits}
use Rattle.rp_agreement.proofs.laws.demand_agrees.Goals as goal

pub returns-clause-accepted : goal.returns-clause-accepted
returns-clause-accepted c = λ input verdict prices m part. demand_passes input (shows_garp (GarpItem verdict)) verdict prices m part (λ is. is)

pub returns-clause-readable : goal.returns-clause-readable
returns-clause-readable c = λ input verdict prices m part limited new spends. demand_fits input limited prices new m spends verdict part
