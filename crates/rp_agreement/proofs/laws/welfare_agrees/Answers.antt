use Rattle.rp_agreement.proofs.AcceptedBounds.{welfare_passes}
use Rattle.rp_check.specs.ItemFailure.{shows_garp}
use Rattle.rp_evidence.specs.declared.certificate.Item.TheVariants.{Garp as GarpItem}
use Rattle.rp_agreement.proofs.BoundsFit.{welfare_fits}
use Rattle.rp_agreement.proofs.laws.welfare_agrees.Goals as goal

pub returns-clause-accepted : goal.returns-clause-accepted
returns-clause-accepted c = λ input verdict prices t part. welfare_passes input (shows_garp (GarpItem verdict)) verdict prices t part (λ is. is)

pub returns-clause-readable : goal.returns-clause-readable
returns-clause-readable c = λ input verdict prices t part limited new t_in. welfare_fits input limited prices new t t_in verdict part
