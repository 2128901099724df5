use Rattle.std.proofs.Common.{◌≡◌, arith, length}
use Rattle.rp_clauses.specs.GarpFailure.{RespectsAt}
use Rattle.rp_clauses.specs.Standards.{StrictUnder, WeakUnder}
use Rattle.rp_evidence.specs.declared.failure.Reason.TheVariants.{Order, Shape}
use Rattle.rp_evidence.specs.Clauses.{FirstUnless, Unless}
use Rattle.rp_evidence.proofs.ClauseLemmas.{first_not, then_last}
use Rattle.rp_table.specs.Cost.{cost_of}
use Rattle.rp_table.specs.Tables.{records_of}
use Rattle.rp_clauses.proofs.garp.check_respecting_ranks.Goals as goal

pub returns-then-not-respects : goal.returns-then-not-respects
returns-then-not-respects c =
    let n = records_of c.args.input.now.table.now in
    let weak = WeakUnder c.args.standard c.args.input.now.table.now.levels (cost_of c.args.input.now.table.now) in
    let strict = StrictUnder c.args.standard c.args.input.now.table.now.levels (cost_of c.args.input.now.table.now) in
    let r = c.fails-then-not-respects.result in
    then_last (Unless (length c.args.ranks.now ≡ n) Shape 0) (FirstUnless n (RespectsAt n weak strict c.args.ranks.now) Order) r (omega arith)
    (first_not n c.loop-s.s (RespectsAt n weak strict c.args.ranks.now) Order r (omega arith) c.loop-s.invariant (λ holds. absurd (cc (c.respects.ensures.1 holds))) c.fails-then-not-respects.ensures)

pub returns : goal.returns
returns c = (omega arith, ((λ k k_in. c.loop-s.invariant k (omega arith)), tt))
