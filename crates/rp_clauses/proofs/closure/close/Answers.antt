use Rattle.std.proofs.Common.{ℕ, ◌≡◌, arith, subst}
use Rattle.rp_evidence.proofs.Rounds.{HasClosed, closed_more, closed_none}
use Rattle.rp_clauses.specs.InnerBits.{has_bit}
use Rattle.rp_clauses.proofs.closure.close.Goals as goal

pub loop-k-init : goal.loop-k-init
loop-k-init c = closed_none c.args.n (has_bit c.args.rows.now)

pub loop-k-preserved : goal.loop-k-preserved
loop-k-preserved c =
    closed_more c.args.n c.loop-k.k (has_bit c.args.rows.now) (has_bit c.loop-k.rows) (has_bit c.go_through.new.rows) (omega arith) c.loop-k.invariant c.go_through.ensures

pub returns : goal.returns
returns c =
    let end : c.loop-k.k ≡ c.args.n = omega (arith, c.loop-k-test.false, c.loop-k.auto.k-end) in
    subst (λ (k : ℕ). HasClosed c.args.n (has_bit c.args.rows.now) (has_bit c.loop-k.rows) k) end c.loop-k.invariant
