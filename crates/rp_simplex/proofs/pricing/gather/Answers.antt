use Rattle.std.proofs.Common.{◌≤◌, ◌+◌, ℕ, List, length, sym, subst, arith}
use Rattle.rp_simplex.specs.InnerCombined.{IsGathered}
use Rattle.rp_simplex.proofs.GatheredPlaces.{gathered_start, gathered_zero, still}
use Rattle.rp_simplex.proofs.pricing.gather.Goals as goal
use Rattle.rp_simplex.proofs.pricing.gather.Goals.{then-multipliers-s-ne0, else-multipliers-s-ne0}

pub loop-s-init : goal.loop-s-init
loop-s-init c = record {
  room = c.requires.room;
  gathered = gathered_start c.args.multipliers.now c.args.places.now;
}

pub loop-s-preserved : goal.loop-s-preserved
loop-s-preserved c =
    let xs = c.args.multipliers.now in let so_far = c.loop-s.invariant in
    elim c.if-multipliers-s-ne0.branch [
      | then-multipliers-s-ne0 w ↦
          let kept = still xs c.loop-s.s c.loop-s.places c.loop-s.count c.if-multipliers-s-ne0.places c.if-multipliers-s-ne0.count so_far.room so_far.gathered (omega arith) w.places-is w.count-is in
          record { room = kept.0; gathered = kept.1 }
      | else-multipliers-s-ne0 w ↦ record {
        room = subst (λ (ps : List ℕ). length xs ≤ length ps) (sym w.places-is) so_far.room;
        gathered = subst (λ (ps : List ℕ). IsGathered (c.loop-s.s + 1) xs ps c.if-multipliers-s-ne0.count) (sym w.places-is) (subst (IsGathered (c.loop-s.s + 1) xs c.loop-s.places) (sym w.count-is)
            (gathered_zero c.loop-s.s xs c.loop-s.places c.loop-s.count so_far.gathered c.requires.fit (omega arith) w.if-multipliers-s-ne0.false));
      }
    ]
