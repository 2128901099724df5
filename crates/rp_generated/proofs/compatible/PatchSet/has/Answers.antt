use Rattle.std.proofs.Common.{◌≤◌, ◌/◌, length, rules}
use Rattle.rp_generated.proofs.LightTypes.{not_in, not_past}
use Rattle.rp_generated.proofs.compatible.PatchSet.has.Goals as goal

pub returns-in-Some : goal.returns-in-Some
returns-in-Some c = λ no. not_in c.args.self.now.words c.args.i c.in-Some.word.now c.in-Some.ensures.lookup.0 c.in-Some.ensures.lookup.1 (c.has_bit.ensures no)

pub returns-in-None : goal.returns-in-None
returns-in-None c = λ no.
    let past : length c.args.self.now.words ≤ c.args.i / 64 = search rules in
    not_past c.args.self.now.words c.args.i past
