use Rattle.std.proofs.Common.{rules}
use Rattle.rp_whole_tableau.specs.ReadOff.{HasNoAmount, IsAmount}
use Rattle.rp_whole_tableau.proofs.ReadOffs.{amount_more, amount_none}
use Rattle.rp_whole_tableau.proofs.grown.Grown.entries_by.Goals as goal
use Rattle.rp_whole_tableau.proofs.grown.Grown.entries_by.Goals.{in-Some-found+in_ok-push, in_default-found}

pub loop-i-preserved : goal.loop-i-preserved
loop-i-preserved c =
    let t = c.args.self.now.tableau in
    let i = c.loop-i.i in
    let common = c.args.common in
    let entries = c.loop-i.entries.items in
    elim c.match-found.branch [
      | in-Some-found+in_ok-push w ↦
          let is : IsAmount t common i w.in-Some-found.entry = search rules in
          rw (w.entries-is, w.in_ok-push.ensures.items) (amount_more t common i entries w.in-Some-found.entry c.loop-i.invariant is)
      | in_default-found w ↦
          let none : HasNoAmount t i = search rules in
          rw w.entries-is (amount_none t common i entries c.loop-i.invariant none)
    ]
