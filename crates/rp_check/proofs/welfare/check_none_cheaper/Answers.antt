use Rattle.std.proofs.Common.{arith, slice_index}
use Rattle.rp_evidence.specs.declared.failure.Reason.TheVariants.{Least}
use Rattle.rp_evidence.specs.InnerBudget.{input_of}
use Rattle.rp_check.specs.WelfareFailure.{IsNotAboveAt}
use Rattle.rp_evidence.proofs.ClauseLemmas.{first_not}
use Rattle.rp_check.proofs.welfare.check_none_cheaper.Goals as goal

pub returns-then-spending-upper : goal.returns-then-spending-upper
returns-then-spending-upper c =
    let input = input_of c.args.new_prices.now in
    first_not input.n c.loop-s.s (IsNotAboveAt input (slice_index c.args.new_prices.now.prices.now) c.args.t c.args.upper) Least c.fails.result (omega arith) c.loop-s.invariant
    (λ h. let k = h ((c.requires.marked c.loop-s.s (omega arith)).0 c.if-reaching-s.true) in absurd (omega (arith, k, c.spending.ensures.exact, c.if-spending-upper.true))) c.fails.ensures
