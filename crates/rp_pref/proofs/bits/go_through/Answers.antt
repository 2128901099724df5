use Rattle.std.proofs.Common.{sym, ◌∙◌, ◌+◌, subst}
use Rattle.rp_pref.proofs.Rounds.{HasGoneRows, row_gone, skipped_itself, skipped_unreached}
use Rattle.rp_pref.proofs.bits.go_through.Goals as goal
use Rattle.rp_pref.proofs.bits.go_through.Goals.{then-s-k+then-is_set, else-s-k, else-s-k-via-then-s-k+else-is_set, else-s-k-via-else-s-k}

pub loop-s-preserved : goal.loop-s-preserved
loop-s-preserved c =
    let old = c.args.bits.now in let now = c.loop-s.bits in let k = c.args.k in let s = c.loop-s.s in let so_far = c.loop-s.invariant in
    elim c.if-s-k.branch [
      | then-s-k+then-is_set w ↦
          let taken = w.take_in.ensures in
          subst (λ b. HasGoneRows old b k (s + 1)) (sym w.bits-is)
          (row_gone old now k s so_far w.take_in.new.bits w.if-s-k.true (sym w.is_set.ensures ∙ w.if-is_set.true) taken.count taken.cols taken.row taken.others)
      | else-s-k w ↦ subst (λ b. HasGoneRows old b k (s + 1)) (sym w.bits-is) (elim w.else-s-k.branch [
        | else-s-k-via-then-s-k+else-is_set w' ↦ skipped_unreached old now k s so_far (sym w'.is_set.ensures ∙ w'.if-is_set.false)
        | else-s-k-via-else-s-k w' ↦ skipped_itself old now k s so_far w'.if-s-k.false
      ])
    ]
