use Rattle.std.proofs.Common.{sym, ap, ◌∙◌}
use Rattle.rp_forms.specs.declared.form.Form.{Form}
use Rattle.rp_sheet.proofs.FixedGoods.{no_goods_at_all, column_missing, own_goods, good_missing, all_goods}
use Rattle.rp_sheet.proofs.fixed_goods.check_missing.Goals as goal

pub returns-then-lacks_all_goods-clause-refused : goal.returns-then-lacks_all_goods-clause-refused
returns-then-lacks_all_goods-clause-refused c = λ _. no_goods_at_all c.args.columns.now.form c.args.goods.now c.args.columns.now.headers (sym c.lacks_all_goods.ensures ∙ c.if-lacks_all_goods.true)

pub returns-then-lacks_column-clause-refused : goal.returns-then-lacks_column-clause-refused
returns-then-lacks_column-clause-refused c = λ _. column_missing c.args.columns.now.form c.args.goods.now c.args.columns.now.headers (sym c.lacks_column.ensures ∙ c.if-lacks_column.true)

pub returns-then-not-form-clause-fine : goal.returns-then-not-form-clause-fine
returns-then-not-form-clause-fine c =
    own_goods c.args.columns.now.form c.args.goods.now c.args.columns.now.headers (sym c.lacks_all_goods.ensures ∙ c.if-lacks_all_goods.false) (sym c.lacks_column.ensures ∙ c.if-lacks_column.false) (sym (ap (λ (form : Form). form.fixed_goods) c.form.ensures) ∙ c.if-not-form.true)

pub returns-then-branch-clause-refused : goal.returns-then-branch-clause-refused
returns-then-branch-clause-refused c = λ _.
    good_missing c.args.columns.now.form c.args.goods.now c.args.columns.now.headers (sym c.lacks_all_goods.ensures ∙ c.if-lacks_all_goods.false) (sym c.lacks_column.ensures ∙ c.if-lacks_column.false) (sym (ap (λ (form : Form). form.fixed_goods) c.form.ensures) ∙ c.if-not-form.false) (sym c.in_ok-lacks_good.ensures ∙ c.if-branch.true)

pub returns-clause-fine : goal.returns-clause-fine
returns-clause-fine c =
    all_goods c.args.columns.now.form c.args.goods.now c.args.columns.now.headers (sym c.lacks_all_goods.ensures ∙ c.if-lacks_all_goods.false) (sym c.lacks_column.ensures ∙ c.if-lacks_column.false) (sym (ap (λ (form : Form). form.fixed_goods) c.form.ensures) ∙ c.if-not-form.false) (sym c.in_ok-lacks_good.ensures ∙ c.if-branch.false)
