use Rattle.std.proofs.Common.{◌≡◌, ◌≤◌, ℕ, refl, subst, slice_index, take, arith}
use Rattle.rp_evidence.specs.Enumeration.{Enumerates}
use Rattle.rp_table.specs.Tables.{records_of}
use Rattle.rp_evidence.proofs.Enumerations.{enumerates_observed, enumerates_without, enumerates_written}
use Rattle.rp_cost.proofs.listed.write_not_above.Goals as goal
use Rattle.rp_cost.proofs.listed.write_not_above.Goals.{then-y, else-y}

pub loop-t-preserved : goal.loop-t-preserved
loop-t-preserved c =
    let l = c.loop-t in
    let P = λ (t : ℕ). slice_index c.args.tech.now.y t ≤ c.args.y in
    elim c.if-y.branch [
      | then-y w ↦ rw (w.count-is, w.list-is) (record {
        few = omega (arith, l.invariant.few);
        listed = enumerates_written P l.t l.count l.list l.invariant.listed (omega (arith, w.if-y.true, c.y.ensures.exact)) (omega (arith, l.invariant.few, l.auto.list, c.requires, c.loop-t-test.true, l.auto.t-end, c.count-t-end.ensures.count)) _ refl;
      })
      | else-y w ↦ rw (w.count-is, w.list-is) (record {
        few = omega (arith, l.invariant.few);
        listed = enumerates_without P l.t _ l.invariant.listed (λ h. absurd (omega (arith, h, w.if-y.false, c.y.ensures.exact)));
      })
    ]

pub returns-clause-listed : goal.returns-clause-listed
returns-clause-listed c =
    let l = c.loop-t in
    let end : l.t ≡ records_of c.args.tech.now.table = omega (arith, c.loop-t-test.false, l.auto.t-end, c.count-t-end.ensures.count) in
    subst (λ (n : ℕ). Enumerates n (λ t. slice_index c.args.tech.now.y t ≤ c.args.y) (take l.count l.list)) end l.invariant.listed

pub returns-clause-observed : goal.returns-clause-observed
returns-clause-observed c =
    enumerates_observed (records_of c.args.tech.now.table) (λ t. slice_index c.args.tech.now.y t ≤ c.args.y) (take c.loop-t.count c.loop-t.list) (returns-clause-listed c)
