use Rattle.std.proofs.Common.{ℕ, subst, take, arith, slice_index}
use Rattle.rp_evidence.specs.InnerBudget.{input_of}
use Rattle.rp_evidence.specs.Enumeration.{Enumerates}
use Rattle.rp_evidence.specs.Marks.{IsMarked}
use Rattle.rp_check.proofs.SetLists.{few_of}
use Rattle.rp_check.proofs.WelfareClauses.{lists_reached, lower_told}
use Rattle.rp_check.proofs.welfare.lower_holds.Goals as goal

pub cost_holds-requires : goal.cost_holds-requires
cost_holds-requires c =
    let list = take c.write_marked-count.result c.write_marked-count.new.list in
    let those = subst (λ (n : ℕ). Enumerates n (IsMarked c.reached-marks.result) list) c.n-2.ensures.count c.write_marked-count.ensures.listed in
    few_of (input_of c.args.new_prices.now).n (IsMarked c.reached-marks.result) list (omega (arith, c.n-2.ensures.count, c.n-2.ensures.few)) those

pub returns : goal.returns
returns c =
    let list = take c.write_marked-count.result c.write_marked-count.new.list in
    let those = subst (λ (n : ℕ). Enumerates n (IsMarked c.reached-marks.result) list) c.n-2.ensures.count c.write_marked-count.ensures.listed in
    lower_told (input_of c.args.new_prices.now) c.args.t (slice_index c.args.new_prices.now.prices.now) c.args.lower.now list c.cost_holds.result
    (lists_reached (input_of c.args.new_prices.now) c.args.t c.reached-marks.result list c.reached-marks.ensures those) c.cost_holds.ensures
