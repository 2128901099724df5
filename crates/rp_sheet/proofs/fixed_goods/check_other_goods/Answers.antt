use Rattle.std.proofs.Common.{◌<◌, Bool, not, ◌&&◌, ◌||◌, length, ◌∙◌, sym, ap, arith, refl}
use Rattle.rp_forms.specs.Texts.{text_at}
use Rattle.rp_forms.specs.Columns.{role_at, is_price, is_quantity, name_in}
use Rattle.rp_sheet.specs.Headers.{other_goods_fault}
use Rattle.rp_sheet.specs.declared.fault.TableFault.TheVariants as fault
use Rattle.rp_num.proofs.BelowLemmas.{first_at, none_so_far}
use Rattle.rp_sheet.proofs.fixed_goods.check_other_goods.Goals as goal

pub returns-then-is_other_good-clause-refused : goal.returns-then-is_other_good-clause-refused
unfolding other_goods_fault
returns-then-is_other_good-clause-refused c = λ _.
    let within : c.loop-c.c < length c.args.columns.now.headers = omega (arith, c.len-c-end.ensures, c.loop-c-test.true) in
    let listed = c.in_ok-fixed.ensures (name_in (text_at c.args.columns.now.headers c.loop-c.c)) in
    let good = is_price (role_at c.args.columns.now.form.marks c.args.columns.now.headers c.loop-c.c) || is_quantity (role_at c.args.columns.now.form.marks c.args.columns.now.headers c.loop-c.c) in
    let found = sym c.is_other_good.ensures ∙ c.if-is_other_good.true in
    let test = ap (λ (b : Bool). good && not b) (sym listed) ∙ found in
    first_at (other_goods_fault c.args.columns.now.form.marks c.args.goods.now c.args.columns.now.headers) c.loop-c.c (length c.args.columns.now.headers) (fault.OtherGoods c.number_of.result) within c.loop-c.invariant
    (rw (test, c.number_of.ensures) refl)

pub loop-c-preserved : goal.loop-c-preserved
unfolding other_goods_fault
loop-c-preserved c =
    let listed = c.in_ok-fixed.ensures (name_in (text_at c.args.columns.now.headers c.loop-c.c)) in
    let good = is_price (role_at c.args.columns.now.form.marks c.args.columns.now.headers c.loop-c.c) || is_quantity (role_at c.args.columns.now.form.marks c.args.columns.now.headers c.loop-c.c) in
    let found = sym c.is_other_good.ensures ∙ c.if-is_other_good.false in
    let test = ap (λ (b : Bool). good && not b) (sym listed) ∙ found in
    none_so_far (other_goods_fault c.args.columns.now.form.marks c.args.goods.now c.args.columns.now.headers) c.loop-c.c c.loop-c.invariant (rw test refl)
