use Rattle.std.proofs.Common.{◌≡◌, ℕ, arith, sym, ap, ◌∙◌}
use Rattle.rp_offered.specs.Offered.{costs_less, offer_at}
use Rattle.rp_offered.proofs.Counts.{none_more, one_more}
use Rattle.rp_offered.proofs.offered.count_less.Goals as goal
use Rattle.rp_offered.proofs.offered.count_less.Goals.{then-costs_less, else-costs_less}

pub loop-t-preserved : goal.loop-t-preserved
loop-t-preserved c =
    let l = c.loop-t in
    let f = λ (t : ℕ). costs_less c.args.places (offer_at c.args.places c.args.table.now t) in
    let here : c.costs_less.result ≡ f l.t = c.costs_less.ensures ∙ ap (costs_less c.args.places) c.offer_at.ensures.exact in
    elim c.if-costs_less.branch [
      | then-costs_less w ↦ rw w.count-is (record {
        counted = one_more f l.t l.count l.invariant.counted (sym here ∙ w.if-costs_less.true);
        few = omega (arith, l.invariant.few);
      })
      | else-costs_less w ↦ rw w.count-is (record {
        counted = none_more f l.t l.count l.invariant.counted (sym here ∙ w.if-costs_less.false);
        few = omega (arith, l.invariant.few);
      })
    ]
