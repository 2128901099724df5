use Rattle.std.proofs.Common.{◌<◌, ◌/◌, length, rules}
use Rattle.rp_generated.proofs.LightTypes.{stays_in}
use Rattle.rp_generated.proofs.compatible.PatchSet.remove.Goals as goal

pub returns : goal.returns
returns c = λ j other has.
    let inside : c.args.i / 64 < length c.args.self.now.words = search rules in
    stays_in c.args.self.now.words c.args.i j c.cleared.result inside c.cleared.ensures other has
