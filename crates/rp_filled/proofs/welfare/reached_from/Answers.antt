use Rattle.std.proofs.Common.{◌≡◌, ◌<◌, ℕ, sym, subst, ◌∙◌, arith}
use Rattle.std.proofs.lemmas.Bool.{false≢true}
use Rattle.rp_evidence.specs.Enumeration.{Enumerates}
use Rattle.rp_evidence.specs.Input.{TableInput, input_of_table}
use Rattle.rp_evidence.specs.Welfare.{EqualsOrReaches}
use Rattle.rp_evidence.proofs.Enumerations.{enumerates_few, enumerates_observed, enumerates_pushed, enumerates_without}
use Rattle.rp_filled.proofs.welfare.reached_from.Goals as goal
use Rattle.rp_filled.proofs.welfare.reached_from.Goals.{then-equals_or_reaches+in_ok-push, else-equals_or_reaches}

pub loop-s-preserved : goal.loop-s-preserved
loop-s-preserved c =
    let a = c.args in
    let l = c.loop-s in
    let input : TableInput = input_of_table a.input.now.table.now in
    let s_in : l.s < input.n = omega (arith, c.n-s-end.ensures.count, c.loop-s-test.true, l.auto.s-end) in
    let joins = c.equals_or_reaches.ensures input c.requires.closure c.requires.observed s_in in
    elim c.if-equals_or_reaches.branch [
      | then-equals_or_reaches+in_ok-push w ↦
          rw w.reached-is (enumerates_pushed (EqualsOrReaches input a.t) l.s l.reached.items l.invariant (joins.0 w.if-equals_or_reaches.true) w.push.new.self.items w.in_ok-push.ensures.items)
      | else-equals_or_reaches w ↦
          rw w.reached-is (enumerates_without (EqualsOrReaches input a.t) l.s l.reached.items l.invariant (λ h. false≢true (sym w.if-equals_or_reaches.false ∙ joins.1 h)))
    ]

pub returns-clause-reached : goal.returns-clause-reached
returns-clause-reached c =
    let input : TableInput = input_of_table c.args.input.now.table.now in
    let l = c.loop-s in
    let end : l.s ≡ input.n = omega (arith, c.loop-s-test.false, l.auto.s-end, c.n-s-end.ensures.count) in
    subst (λ (n : ℕ). Enumerates n (EqualsOrReaches input c.args.t) l.reached.items) end l.invariant

pub returns-clause-listed : goal.returns-clause-listed
returns-clause-listed c =
    let input : TableInput = input_of_table c.args.input.now.table.now in
    let l = c.loop-s in
    let end : l.s ≡ input.n = omega (arith, c.loop-s-test.false, l.auto.s-end, c.n-s-end.ensures.count) in
    let lists = subst (λ (n : ℕ). Enumerates n (EqualsOrReaches input c.args.t) l.reached.items) end l.invariant in
    record {
      observed = enumerates_observed input.n (EqualsOrReaches input c.args.t) l.reached.items lists;
      few = omega (arith, enumerates_few input.n (EqualsOrReaches input c.args.t) l.reached.items lists, c.n-s-end.ensures.count, c.n-s-end.ensures.few);
    }
