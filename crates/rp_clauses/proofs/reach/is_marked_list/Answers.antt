use Rattle.std.proofs.Common.{inl, inr, rules, ◌≡◌, ℕ, refl, subst, arith}
use Rattle.std.proofs.lemmas.Bool.{false≢true}
use Rattle.rp_clauses.proofs.MarkedLists.{ListsUpTo, listed_exactly, not_at}
use Rattle.rp_clauses.proofs.reach.is_marked_list.Goals as goal
use Rattle.rp_clauses.proofs.reach.is_marked_list.Goals.{then-at-list-via-then-at-list, then-at-list-via-else-at-list+then-list-at}

pub returns-then-at-list : goal.returns-then-at-list
returns-then-at-list c =
    let marks = c.args.marks.now in
    let list = c.args.list.now in
    let refuse = not_at marks list c.loop-t.at c.loop-t.t c.loop-t.invariant c.args.n (omega (arith, c.loop-t-test.true, c.loop-t.auto.t-end)) (search rules) in (
      (λ h. absurd (false≢true h)),
      (λ h. absurd (elim c.then-at-list.branch [
        | then-at-list-via-then-at-list w ↦ refuse (inl (omega arith)) h
        | then-at-list-via-else-at-list+then-list-at w ↦ refuse (inr (λ e. w.if-list-at.true e)) h
      ])),
    )

pub returns : goal.returns
returns c =
    let l = c.loop-t in
    let end : l.t ≡ c.args.n = omega (arith, c.loop-t-test.false, l.auto.t-end) in
    listed_exactly c.args.marks.now c.args.list.now l.at c.args.n (subst (λ (n : ℕ). ListsUpTo c.args.marks.now c.args.list.now l.at n) end l.invariant) _ refl
