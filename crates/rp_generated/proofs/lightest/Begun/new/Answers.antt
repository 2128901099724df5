use Rattle.std.proofs.Common.{◌≤◌, length, refl, rules}
use Rattle.rp_generated.proofs.LightTypes.{weighed_none}
use Rattle.rp_generated.proofs.lightest.Begun.new.Goals as goal

pub returns-clause-weighed : goal.returns-clause-weighed
returns-clause-weighed c = λ weights.
    let few : length c.args.patches.now.patches ≤ 256 = search rules in
    weighed_none c.args.patches.now weights _ few c.new.ensures.none refl c.all.ensures
