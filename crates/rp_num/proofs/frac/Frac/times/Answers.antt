use Rattle.std.proofs.Common.{IsErr}
use Rattle.rp_num.proofs.Products.{product_given, wide_given}
use Rattle.rp_num.proofs.frac.Frac.times.Goals as goal

pub returns-clause-product : goal.returns-clause-product
returns-clause-product c =
    product_given c.mul.result c.args.self c.new.result c.args.num c.args.den c.from.result c.from-2.result
    c.den.ensures.lowest.positive
    c.from.ensures c.from-2.ensures c.new.ensures.lowest c.mul.ensures.product

pub returns-clause-wide : goal.returns-clause-wide
returns-clause-wide c =
    wide_given c.args.self c.new.result c.args.num c.args.den c.from.result c.from-2.result (IsErr c.mul.result)
    c.den.ensures.lowest.positive c.requires
    c.from.ensures c.from-2.ensures c.new.ensures.lowest c.mul.ensures.wide
