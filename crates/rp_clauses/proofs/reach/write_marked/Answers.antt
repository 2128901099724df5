use Rattle.std.proofs.Common.{refl, sym, ◌∙◌, arith}
use Rattle.std.proofs.lemmas.Bool.{false≢true}
use Rattle.rp_evidence.specs.Marks.{IsMarked}
use Rattle.rp_evidence.proofs.Enumerations.{enumerates_without, enumerates_written}
use Rattle.rp_clauses.proofs.reach.write_marked.Goals as goal
use Rattle.rp_clauses.proofs.reach.write_marked.Goals.{then-marks-t, else-marks-t}

pub loop-t-preserved : goal.loop-t-preserved
loop-t-preserved c =
    let l = c.loop-t in
    let P = IsMarked c.args.marks.now in
    elim c.if-marks-t.branch [
      | then-marks-t w ↦ rw (w.count-is, w.list-is) (record {
        few = omega (arith, l.invariant.few);
        listed = enumerates_written P l.t l.count l.list l.invariant.listed w.if-marks-t.true (omega (arith, l.invariant.few, l.auto.list, c.requires.list, c.loop-t-test.true)) _ refl;
      })
      | else-marks-t w ↦ rw (w.count-is, w.list-is) (record {
        few = omega (arith, l.invariant.few);
        listed = enumerates_without P l.t _ l.invariant.listed (λ h. false≢true (sym w.if-marks-t.false ∙ h));
      })
    ]
