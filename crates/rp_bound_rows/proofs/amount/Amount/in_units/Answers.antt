use Rattle.std.proofs.Common.{◌*◌, ◌^◌, ◌≤◌, arith}
use Rattle.std.proofs.Math.Nat.{div-le_self, one-le-mul}
use Rattle.std.proofs.lemmas.Nat.{mul-le}
use Rattle.rp_num.proofs.Lowest.{IsLowestTerms-divided}
use Rattle.rp_bound_rows.proofs.AmountLemmas.{scaled_lowest}
use Rattle.rp_bound_rows.proofs.amount.Amount.in_units.Goals as goal

pub invariant_of-result : goal.invariant_of-result
invariant_of-result c =
    let whole = c.args.den * c.ten_to.result in
    let some : 1 ≤ whole = one-le-mul c.requires.positive c.ten_to.ensures.positive in
    let lowest = IsLowestTerms-divided c.args.num whole c.gcd-common.result some c.gcd-common.ensures.greatest in
    let small : whole ≤ 18446744073709551615 * 1099511627775 = mul-le c.args.den c.ten_to.result 18446744073709551615 1099511627775 (omega (arith, c.requires.den_small)) (omega (arith, c.ten_to.ensures.small)) in (
      lowest.positive,
      omega (arith, div-le_self c.args.num c.gcd-common.result, c.requires.num_small),
      omega (arith, div-le_self whole c.gcd-common.result, small),
    )

pub returns : goal.returns
returns c =
    scaled_lowest c.args.num c.args.den c.ten_to.result (10 ^ c.args.places) c.gcd-common.result c.ten_to.ensures.power (one-le-mul c.requires.positive c.ten_to.ensures.positive) c.gcd-common.ensures.greatest
