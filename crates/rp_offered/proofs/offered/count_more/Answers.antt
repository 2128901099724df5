use Rattle.std.proofs.Common.{◌≡◌, ℕ, arith, sym, ap, ◌∙◌}
use Rattle.rp_offered.specs.Offered.{costs_more, offer_at}
use Rattle.rp_offered.proofs.Counts.{none_more, one_more}
use Rattle.rp_offered.proofs.offered.count_more.Goals as goal
use Rattle.rp_offered.proofs.offered.count_more.Goals.{then-costs_more, else-costs_more}

pub loop-t-preserved : goal.loop-t-preserved
loop-t-preserved c =
    let l = c.loop-t in
    let f = λ (t : ℕ). costs_more c.args.places (offer_at c.args.places c.args.table.now t) in
    let here : c.costs_more.result ≡ f l.t = c.costs_more.ensures ∙ ap (costs_more c.args.places) c.offer_at.ensures.exact in
    elim c.if-costs_more.branch [
      | then-costs_more w ↦ rw w.count-is (record {
        counted = one_more f l.t l.count l.invariant.counted (sym here ∙ w.if-costs_more.true);
        few = omega (arith, l.invariant.few);
      })
      | else-costs_more w ↦ rw w.count-is (record {
        counted = none_more f l.t l.count l.invariant.counted (sym here ∙ w.if-costs_more.false);
        few = omega (arith, l.invariant.few);
      })
    ]
