use Rattle.rp_whole_tableau.proofs.ReadOffs.{exact_den}
use Rattle.std.proofs.Common.{refl}
use Rattle.rp_whole_tableau.proofs.grown.Grown.den_by.Goals as goal

pub returns-clause-exact : goal.returns-clause-exact
returns-clause-exact c = λ divides. exact_den c.args.self.now.tableau.den c.args.common _ refl divides
