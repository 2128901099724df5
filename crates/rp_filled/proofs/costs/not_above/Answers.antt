use Rattle.std.proofs.Common.{◌≡◌, ◌≤◌, ℕ, slice_index, subst, arith}
use Rattle.rp_evidence.specs.Enumeration.{Enumerates}
use Rattle.rp_evidence.specs.Input.{input_of_table}
use Rattle.rp_table.specs.Tables.{records_of}
use Rattle.rp_evidence.proofs.Enumerations.{enumerates_pushed, enumerates_without}
use Rattle.rp_filled.proofs.CostLemmas.{listed}
use Rattle.rp_filled.proofs.costs.not_above.Goals as goal
use Rattle.rp_filled.proofs.costs.not_above.Goals.{then-y+in_ok-push, else-y}

pub loop-t-preserved : goal.loop-t-preserved
loop-t-preserved c =
    let l = c.loop-t in
    let made : ℕ → Type 0 = λ (t : ℕ). slice_index c.args.tech.now.y t ≤ c.args.y in
    elim c.if-y.branch [
      | then-y+in_ok-push w ↦
          rw w.list-is (enumerates_pushed made l.t l.list.items l.invariant (omega (arith, w.if-y.true, c.y.ensures.exact)) w.push.new.self.items w.in_ok-push.ensures.items)
      | else-y w ↦
          rw w.list-is (enumerates_without made l.t l.list.items l.invariant (λ h. omega (arith, h, w.if-y.false, c.y.ensures.exact)))
    ]

pub returns-clause-lists : goal.returns-clause-lists
returns-clause-lists c =
    let l = c.loop-t in
    let end : l.t ≡ records_of c.args.tech.now.table = omega (arith, c.loop-t-test.false, l.auto.t-end, c.count-t-end.ensures.count) in
    subst (λ (n : ℕ). Enumerates n (λ (t : ℕ). slice_index c.args.tech.now.y t ≤ c.args.y) l.list.items) end l.invariant

pub returns-clause-listed : goal.returns-clause-listed
returns-clause-listed c =
    let l = c.loop-t in
    let tech = c.args.tech.now in
    let end : l.t ≡ records_of tech.table = omega (arith, c.loop-t-test.false, l.auto.t-end, c.count-t-end.ensures.count) in
    listed (input_of_table tech.table) (slice_index tech.y) c.args.y l.list.items c.count-t-end.ensures.valid.inputs.few_records
    (subst (λ (n : ℕ). Enumerates n (λ (t : ℕ). slice_index tech.y t ≤ c.args.y) l.list.items) end l.invariant)
