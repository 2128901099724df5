use Rattle.std.proofs.Common.{◌+◌, false, ap, refl, subst, sym, length, List}
use Rattle.std.proofs.lemmas.List.{get_or_read}
use Rattle.rp_patch.specs.InnerPortions.{IsNextUp, IsRoundedUpBy}
use Rattle.rp_patch.specs.declared.portion.Portion.{Portion}
use Rattle.rp_patch.proofs.RoundedUpPortions.{by_set, one_more_rounded_up, some_left}
use Rattle.rp_patch.proofs.portion.round_up.Goals as goal
use Rattle.rp_patch.proofs.portion.round_up.Goals.{in-Some, in_default}

pub loop-preserved : goal.loop-preserved
loop-preserved c =
    let old = c.args.portions.now.items in
    let now = c.loop.portions.items in
    let next = subst (λ (ps : List Portion). IsNextUp ps c.args.j (length ps) c.next_up.result) c.as_slice.ensures.value c.next_up.ensures in
    elim c.match-next_up.branch [
      | in-Some w ↦
          let found = subst (λ o. IsNextUp now c.args.j (length now) o) w.in-Some.is next in
          let there = get_or_read now w.in-Some.i w.index_mut.result.now found.0 w.index_mut.ensures.value (record { group = 0; whole = 0; rest = 0; rounded_up = false }) in
          let one = by_set now w.in-Some.i _ found.0 (ap (λ (p : Portion). p.group) there) (ap (λ (p : Portion). p.whole) there) (ap (λ (p : Portion). p.rest) there) refl in
          subst (λ v. IsRoundedUpBy old v.items c.args.j (c.loop.counter + 1)) (sym w.portions-is)
          (one_more_rounded_up old now _ c.args.j c.loop.counter w.in-Some.i c.loop.invariant one found.0 found.1 found.2)
      | in_default w ↦
          let none = subst (λ o. IsNextUp now c.args.j (length now) o) w.in_default.is next in
          absurd (some_left old now c.args.j c.loop.counter c.args.many c.loop.invariant c.loop-test.true c.requires.enough none)
    ]
