use Rattle.std.proofs.Common.{arith}
use Rattle.rp_evidence.specs.declared.failure.Reason.TheVariants.{Order}
use Rattle.rp_table.specs.Cost.{cost_of}
use Rattle.rp_table.specs.Tables.{records_of}
use Rattle.rp_clauses.specs.AfriatFailure.{AllowsAt}
use Rattle.rp_evidence.proofs.ClauseLemmas.{first_not}
use Rattle.rp_clauses.proofs.afriat.check_inequalities.Goals as goal

pub returns-then-not-allows : goal.returns-then-not-allows
returns-then-not-allows c =
    let allows = rw (c.as_slice-utility.ensures, c.as_slice-multiplier.ensures) at c.allows.ensures in
    first_not (records_of c.args.input.now.table.now) c.loop-s.s
    (AllowsAt (records_of c.args.input.now.table.now) c.args.input.now.table.now.levels (cost_of c.args.input.now.table.now) c.args.numbers.now) Order
    c.fails.result (omega arith) c.loop-s.invariant (λ holds. absurd (cc (allows.1 holds))) c.fails.ensures

pub returns : goal.returns
returns c = λ k k_in. c.loop-s.invariant k (omega arith)
