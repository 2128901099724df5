use Rattle.std.proofs.Common.{◌≡◌, ◌<◌, Bool, true, false, ◌&&◌, nat_lt, length, get_or, refl, sym, arith, ◌∙◌, ap}
use Rattle.std.proofs.lemmas.Bool.Decides.{nat_tests}
use Rattle.rp_forms.specs.Columns.{role_at, measures}
use Rattle.rp_sheet.specs.Fields.{nothing}
use Rattle.rp_num.proofs.BelowLemmas.{one_holds, none_holds}
use Rattle.rp_sheet.proofs.FieldFaults.{role_is}
use Rattle.rp_sheet.proofs.fields.buys.Goals as goal
use Rattle.rp_sheet.proofs.fields.buys.Goals.{else-measures-via-then-measures+else-figures-c-gt0, else-measures-via-else-measures}

and_false : (b : Bool) → (b && false) ≡ false
and_false true = refl
and_false false = refl

pub returns-then-figures-c-gt0 : goal.returns-then-figures-c-gt0
returns-then-figures-c-gt0 c =
    let here = ap measures (role_is _ c.args.columns.now.headers c.loop-c.c c.role.result c.role.ensures) ∙ sym c.measures.ensures ∙ c.if-measures.true in
    let some = c.if-figures-c-gt0.true in
    let bought : nat_lt 0 (get_or c.args.figures.now c.loop-c.c nothing).units ≡ true = grind (arith, nat_tests) in
    let within : c.loop-c.c < length c.args.columns.now.headers = omega (arith, c.len-c-end.ensures, c.loop-c-test.true) in
    sym (one_holds (λ k. measures (role_at c.args.columns.now.form.marks c.args.columns.now.headers k) && nat_lt 0 (get_or c.args.figures.now k nothing).units) c.loop-c.c (length c.args.columns.now.headers) within (rw (here, bought) refl))

pub loop-c-preserved : goal.loop-c-preserved
loop-c-preserved c =
    let role = ap measures (role_is _ c.args.columns.now.headers c.loop-c.c c.role.result c.role.ensures) ∙ sym c.measures.ensures in
    none_holds (λ k. measures (role_at c.args.columns.now.form.marks c.args.columns.now.headers k) && nat_lt 0 (get_or c.args.figures.now k nothing).units) c.loop-c.c c.loop-c.invariant
    (elim c.else-measures.branch [
      | else-measures-via-then-measures+else-figures-c-gt0 w ↦
          let none = w.if-figures-c-gt0.false in
          let unbought : nat_lt 0 (get_or c.args.figures.now c.loop-c.c nothing).units ≡ false = grind (arith, nat_tests) in
          rw unbought (and_false (measures (role_at c.args.columns.now.form.marks c.args.columns.now.headers c.loop-c.c)))
      | else-measures-via-else-measures w ↦ rw (role ∙ w.if-measures.false) refl
    ])
