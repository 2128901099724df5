use Rattle.std.specs.Int.{IsGcd}
use Rattle.rp_patch.proofs.Multiples.{common}
use Rattle.rp_patch.proofs.totals.common_multiple.Goals as goal

pub returns : goal.returns
returns c =
    let is : IsGcd c.args.a c.args.b c.gcd.result = rw (c.from-a.ensures, c.from-b.ensures) at c.gcd.ensures.greatest in
    rw (c.from-a.ensures, c.from-b.ensures) (common c.args.a c.args.b c.gcd.result c.requires.left c.requires.right is)
