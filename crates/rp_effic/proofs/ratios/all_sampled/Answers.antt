use Rattle.std.proofs.Common.{◌≡◌, ◌∷◌, [], refl, arith}
use Rattle.std.proofs.lemmas.List.{length_push}
use Rattle.std.proofs.lemmas.List.Quantifiers.{Any-push}
use Rattle.rp_effic.specs.declared.ratio.Ratio.{Ratio}
use Rattle.rp_effic.proofs.Collected.{any_left}
use Rattle.rp_effic.proofs.ratios.all_sampled.Goals as goal
use Rattle.rp_effic.proofs.ratios.all_sampled.Goals.{in-Some+in_ok-push-2, in_default}

pub loop-s-init : goal.loop-s-init
loop-s-init c = rw (c.in_ok-push.ensures.items, c.new-ratios.ensures.items) (record {
  one = Any-push (λ (r : Ratio). r.num ≡ r.den) [] _ refl;
  few = omega arith;
})

pub loop-s-preserved : goal.loop-s-preserved
loop-s-preserved c =
    let l = c.loop-s in
    elim c.match-middle_ratio.branch [
      | in-Some+in_ok-push-2 w ↦ rw (w.ratios-is, w.in_ok-push-2.ensures.items) (record {
        one = any_left (λ (r : Ratio). r.num ≡ r.den) l.ratios.items (w.in-Some.ratio ∷ []) l.invariant.one;
        few = omega (arith, l.invariant.few, length_push l.ratios.items w.in-Some.ratio);
      })
      | in_default w ↦ rw w.ratios-is (record { one = l.invariant.one; few = omega (arith, l.invariant.few) })
    ]
