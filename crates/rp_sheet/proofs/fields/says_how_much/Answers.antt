use Rattle.std.proofs.Common.{◌<◌, length, sym, arith, ◌∙◌, ap}
use Rattle.rp_forms.specs.Columns.{role_at, measures}
use Rattle.rp_num.proofs.BelowLemmas.{one_holds, none_holds}
use Rattle.rp_sheet.proofs.FieldFaults.{role_is}
use Rattle.rp_sheet.proofs.fields.says_how_much.Goals as goal

pub returns-then-measures : goal.returns-then-measures
returns-then-measures c =
    let here = ap measures (role_is _ c.args.columns.now.headers c.loop-c.c c.role.result c.role.ensures) ∙ sym c.measures.ensures ∙ c.if-measures.true in
    let within : c.loop-c.c < length c.args.columns.now.headers = omega (arith, c.len-c-end.ensures, c.loop-c-test.true) in
    sym (one_holds (λ k. measures (role_at c.args.columns.now.form.marks c.args.columns.now.headers k)) c.loop-c.c (length c.args.columns.now.headers) within here)

pub loop-c-preserved : goal.loop-c-preserved
loop-c-preserved c =
    let here = ap measures (role_is _ c.args.columns.now.headers c.loop-c.c c.role.result c.role.ensures) ∙ sym c.measures.ensures ∙ c.if-measures.false in
    none_holds (λ k. measures (role_at c.args.columns.now.form.marks c.args.columns.now.headers k)) c.loop-c.c c.loop-c.invariant here
