use Rattle.std.proofs.Common.{true, false, ◌∙◌, sym, refl}
use Rattle.std.proofs.lemmas.Bool.{false≢true}
use Rattle.rp_patch.proofs.TallyMaps.{tally_more}
use Rattle.rp_patch.proofs.tally.tally_on.Goals as goal
use Rattle.rp_patch.proofs.tally.tally_on.Goals.{then-is_on+in_ok-count, else-is_on}

pub loop-i-preserved : goal.loop-i-preserved
loop-i-preserved c =
    elim c.if-is_on.branch [
      | then-is_on+in_ok-count w ↦
          let more = tally_more c.args.all.now c.args.choices.now c.args.j c.loop-i.i true c.loop-i.tally.entries c.if-is_on.tally.entries
          (sym w.if-is_on.true ∙ c.is_on.ensures) c.loop-i.invariant.so_far c.loop-i.invariant.at_most
          (λ e. rw (← w.times.ensures.exact) w.times.ensures.within)
          (rw (w.tally-is, ← w.times.ensures.exact, ← w.signs_at.ensures) w.in_ok-count.ensures) in
          record { so_far = more.0; at_most = more.1 }
      | else-is_on w ↦
          let more = tally_more c.args.all.now c.args.choices.now c.args.j c.loop-i.i false c.loop-i.tally.entries c.if-is_on.tally.entries
          (sym w.if-is_on.false ∙ c.is_on.ensures) c.loop-i.invariant.so_far c.loop-i.invariant.at_most
          (λ e. absurd (false≢true e)) (rw w.tally-is refl) in
          record { so_far = more.0; at_most = more.1 }
    ]
