use Rattle.std.proofs.Common.{◌≡◌, ℕ, suc, ◌+◌, ◌==◌, slice_index, if◌then◌else◌, sym, ap, subst, add-one, arith}
use Rattle.std.proofs.lemmas.Bool.{eq-eqb, ne_eqb}
use Rattle.rp_table.specs.Sums.{sum_below}
use Rattle.rp_patch.proofs.GroupFacts.{part_small}
use Rattle.rp_patch.specs.Apportionment.{counts_in, grouped}
use Rattle.rp_patch.proofs.totals.sum_of.Goals as goal
use Rattle.rp_patch.proofs.totals.sum_of.Goals.{then-groups-i, else-groups-i}

pub overflow_add-sum : goal.overflow_add-sum
overflow_add-sum c =
    let groups = c.args.groups.now in
    let counts = c.args.counts.now in
    let i = c.loop-i.i in
    let part = part_small groups counts c.requires.grouped c.args.j (suc i) c.requires.group (omega (arith, c.loop-i-test.true)) in
    let here : (if slice_index groups i == c.args.j then slice_index counts i else 0) ≡ slice_index counts i =
    ap (λ b. if b then slice_index counts i else 0) (eq-eqb (slice_index groups i) c.args.j c.if-groups-i.true) in
    omega (arith, part, here, c.loop-i.invariant)

pub loop-i-preserved : goal.loop-i-preserved
loop-i-preserved c =
    let groups = c.args.groups.now in
    let counts = c.args.counts.now in
    let i = c.loop-i.i in
    let f = λ (k : ℕ). if slice_index groups k == c.args.j then slice_index counts k else 0 in
    let more : c.if-groups-i.sum ≡ sum_below i f + f i = elim c.if-groups-i.branch [
      | then-groups-i w ↦
          let here : f i ≡ slice_index counts i = ap (λ b. if b then slice_index counts i else 0) (eq-eqb (slice_index groups i) c.args.j w.if-groups-i.true) in
          omega (arith, w.sum-is, here, c.loop-i.invariant)
      | else-groups-i w ↦
          let here : f i ≡ 0 = ap (λ b. if b then slice_index counts i else 0) (ne_eqb (slice_index groups i) c.args.j w.if-groups-i.false) in
          omega (arith, w.sum-is, here, c.loop-i.invariant)
    ] in
    subst (λ k. c.if-groups-i.sum ≡ sum_below k f) (sym (add-one i)) more

pub returns-clause-exact : goal.returns-clause-exact
returns-clause-exact c =
    let groups = c.args.groups.now in
    let counts = c.args.counts.now in
    subst (λ n. c.loop-i.sum ≡ sum_below n (λ k. if slice_index groups k == c.args.j then slice_index counts k else 0))
    (omega (arith, c.loop-i-test.false, c.loop-i.auto.i-end)) c.loop-i.invariant

pub returns-clause-positive : goal.returns-clause-positive
returns-clause-positive c =
    let groups = c.args.groups.now in
    let counts = c.args.counts.now in
    let exact : c.loop-i.sum ≡ counts_in (grouped groups counts) c.args.j =
    subst (λ n. c.loop-i.sum ≡ sum_below n (λ k. if slice_index groups k == c.args.j then slice_index counts k else 0))
    (omega (arith, c.loop-i-test.false, c.loop-i.auto.i-end)) c.loop-i.invariant in
    omega (arith, exact, c.requires.grouped.positive c.args.j c.requires.group)

pub returns-clause-few : goal.returns-clause-few
returns-clause-few c =
    let groups = c.args.groups.now in
    let counts = c.args.counts.now in
    let exact : c.loop-i.sum ≡ counts_in (grouped groups counts) c.args.j =
    subst (λ n. c.loop-i.sum ≡ sum_below n (λ k. if slice_index groups k == c.args.j then slice_index counts k else 0))
    (omega (arith, c.loop-i-test.false, c.loop-i.auto.i-end)) c.loop-i.invariant in
    omega (arith, exact, c.requires.grouped.small c.args.j c.requires.group)
