use Rattle.std.proofs.Common.{◌≡◌, ℕ, sym, subst, ◌∙◌, arith}
use Rattle.std.proofs.lemmas.Bool.{false≢true}
use Rattle.rp_evidence.specs.Enumeration.{Enumerates}
use Rattle.rp_evidence.specs.Input.{TableInput, input_of_table}
use Rattle.rp_evidence.specs.Welfare.{EqualsOrReaches}
use Rattle.rp_evidence.proofs.Enumerations.{enumerates_few, enumerates_observed, enumerates_pushed, enumerates_without}
use Rattle.rp_welfare.proofs.reached.reached_from.Goals as goal
use Rattle.rp_welfare.proofs.reached.reached_from.Goals.{then-equals_or_reaches+in_ok-push, else-equals_or_reaches}

pub loop-s-preserved : goal.loop-s-preserved
loop-s-preserved c =
    let a = c.args in
    let l = c.loop-s in
    let input : TableInput = input_of_table a.table.now in
    let joins = c.equals_or_reaches.ensures.by_weak_steps input c.requires.closes in
    elim c.if-equals_or_reaches.branch [
      | then-equals_or_reaches+in_ok-push w ↦
          rw w.reached-is (enumerates_pushed (EqualsOrReaches input a.t) l.s l.reached.items l.invariant (joins.0 w.if-equals_or_reaches.true) w.push.new.self.items w.in_ok-push.ensures.items)
      | else-equals_or_reaches w ↦
          rw w.reached-is (enumerates_without (EqualsOrReaches input a.t) l.s l.reached.items l.invariant (λ h. false≢true (sym w.if-equals_or_reaches.false ∙ joins.1 h)))
    ]

pub returns-clause-listed : goal.returns-clause-listed
returns-clause-listed c =
    let input : TableInput = input_of_table c.args.table.now in
    let l = c.loop-s in
    let end : l.s ≡ input.n = omega (arith, c.loop-s-test.false, l.auto.s-end, c.n-s-end.ensures.count) in
    subst (λ (n : ℕ). Enumerates n (EqualsOrReaches input c.args.t) l.reached.items) end l.invariant

pub returns-clause-observed : goal.returns-clause-observed
returns-clause-observed c =
    let input : TableInput = input_of_table c.args.table.now in
    let l = c.loop-s in
    let end : l.s ≡ input.n = omega (arith, c.loop-s-test.false, l.auto.s-end, c.n-s-end.ensures.count) in
    enumerates_observed input.n (EqualsOrReaches input c.args.t) l.reached.items (subst (λ (n : ℕ). Enumerates n (EqualsOrReaches input c.args.t) l.reached.items) end l.invariant)

pub returns-clause-few : goal.returns-clause-few
returns-clause-few c =
    let input : TableInput = input_of_table c.args.table.now in
    let l = c.loop-s in
    omega (arith, enumerates_few l.s (EqualsOrReaches input c.args.t) l.reached.items l.invariant, l.auto.s-end, c.n-s-end.ensures.count, c.n-s-end.ensures.valid.few_records)
