use Rattle.std.proofs.Common.{◌-◌, ◌<◌, ◌≤◌, length, sym, arith, ◌∙◌}
use Rattle.rp_sheet.proofs.StageLemmas.{no_records, many_records, fine_records}
use Rattle.rp_sheet.proofs.sheet.check_count.Goals as goal

pub returns-then-len-eq1-clause-refused : goal.returns-then-len-eq1-clause-refused
returns-then-len-eq1-clause-refused c = no_records c.args.form.now c.args.records.now (sym c.len.ensures ∙ c.if-len-eq1.true)

pub returns-then-len-form-clause-refused : goal.returns-then-len-form-clause-refused
returns-then-len-form-clause-refused c =
    let many : c.args.form.now.most < length c.args.records.now - 1 = omega arith in
    many_records c.args.form.now c.args.records.now many

pub returns-clause-fine : goal.returns-clause-fine
returns-clause-fine c =
    let few : length c.args.records.now - 1 ≤ c.args.form.now.most = omega arith in
    fine_records c.args.form.now c.args.records.now c.requires (λ one. c.if-len-eq1.false (c.len.ensures ∙ one)) few
