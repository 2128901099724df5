use Rattle.std.proofs.Common.{◌≡◌, ◌++◌, false, not}
use Rattle.rp_num.specs.Below.{any_below}
use Rattle.rp_forms.specs.Texts.{text_at}
use Rattle.rp_sheet.specs.Headers.{has, good_mark}
use Rattle.rp_sheet.proofs.fixed_goods.lacks_good.Given as goal

abbrev pub invariant-loop-good : goal.invariant-loop-good
invariant-loop-good l =
    any_below l.good-index (λ g. not (has l.columns.headers (good_mark l.columns.form ++ text_at l.goods g))) ≡ false
