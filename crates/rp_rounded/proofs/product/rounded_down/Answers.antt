use Rattle.std.proofs.Common.{◌*◌, ◌+◌, ap, ◌∙◌}
use Rattle.rp_rounded.proofs.Twos.{digits_of_product, rounded_found}
use Rattle.rp_rounded.proofs.product.rounded_down.Goals as goal

pub returns : goal.returns
returns c =
    rounded_found (c.args.v.num * c.args.across) (c.args.v.den * c.args.own) c.in_ok-first.first.lead (c.in_ok-first.first.places + c.in_ok-short.short.twos) c.over_twos.result
    (digits_of_product c.args.v.num c.args.v.den c.args.across c.args.own c.in_ok-num.num c.in_ok-short.short.part c.in_ok-short.short.twos c.from.result c.in_ok-first.first.lead c.in_ok-first.first.places
    (c.in_ok-num.ensures.value ∙ ap (λ z. z * c.args.across) c.num.ensures.value) (c.in_ok-short.ensures.value ∙ c.den.ensures.value) c.from.ensures c.in_ok-first.ensures.leading)
    c.over_twos.ensures
