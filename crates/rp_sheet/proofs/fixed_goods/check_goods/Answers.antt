use Rattle.std.proofs.Common.{◌≡◌, ◌≢◌, ◌<◌, ◌≤◌, length, Some, arith}
use Rattle.rp_sheet.specs.Headers.{names_of, goods_stage}
use Rattle.rp_sheet.specs.declared.fault.TableFault.{TableFault}
use Rattle.rp_sheet.specs.declared.fault.TableFault.TheVariants as fault
use Rattle.rp_sheet.proofs.FixedGoods.{in_present, in_missing, in_number, no_goods_fault}
use Rattle.rp_num.proofs.PassedOn.{passed_on}
use Rattle.rp_sheet.proofs.fixed_goods.check_goods.Goals as goal

pub returns-in_err-check_present-clause-refused : goal.returns-in_err-check_present-clause-refused
returns-in_err-check_present-clause-refused c =
    passed_on c.from_residual.result c.in_err-check_present.field-0.0 (λ (e : TableFault). e ≢ fault.NoMemory → goods_stage c.args.columns.now.form c.args.goods.now c.args.columns.now.headers ≡ Some e) c.from_residual.ensures
    (λ other. in_present c.args.columns.now.form c.args.goods.now c.args.columns.now.headers c.in_err-check_present.field-0.0 (c.in_err-check_present.ensures.refused other))

pub returns-in_err-check_missing-clause-refused : goal.returns-in_err-check_missing-clause-refused
returns-in_err-check_missing-clause-refused c =
    passed_on c.from_residual-in_err-check_missing.result c.in_err-check_missing.field-0.0 (λ (e : TableFault). e ≢ fault.NoMemory → goods_stage c.args.columns.now.form c.args.goods.now c.args.columns.now.headers ≡ Some e) c.from_residual-in_err-check_missing.ensures
    (λ other. in_missing c.args.columns.now.form c.args.goods.now c.args.columns.now.headers c.in_err-check_missing.field-0.0 c.in_ok-check_present.ensures.fine (c.in_err-check_missing.ensures.refused other))

pub returns-then-count_goods-clause-refused : goal.returns-then-count_goods-clause-refused
returns-then-count_goods-clause-refused c = λ _.
    let many : 16 < length (names_of c.args.columns.now.form c.args.columns.now.headers) = omega (arith, c.count_goods.ensures, c.if-count_goods.true) in
    in_number c.args.columns.now.form c.args.goods.now c.args.columns.now.headers c.in_ok-check_present.ensures.fine c.in_ok-check_missing.ensures.fine many

pub returns-clause-fine : goal.returns-clause-fine
returns-clause-fine c =
    let few : length (names_of c.args.columns.now.form c.args.columns.now.headers) ≤ 16 = omega (arith, c.count_goods.ensures, c.if-count_goods.false) in
    no_goods_fault c.args.columns.now.form c.args.goods.now c.args.columns.now.headers c.in_ok-check_present.ensures.fine c.in_ok-check_missing.ensures.fine few
