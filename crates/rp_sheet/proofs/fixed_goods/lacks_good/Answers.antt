use Rattle.std.proofs.Common.{◌++◌, ℕ, List, [], length, not, sym, ap, ◌∙◌}
use Rattle.std.proofs.lemmas.List.{get_or_default}
use Rattle.rp_forms.specs.Texts.{text_at}
use Rattle.rp_sheet.specs.Headers.{has, good_mark}
use Rattle.rp_num.proofs.BelowLemmas.{one_holds, none_holds}
use Rattle.rp_sheet.proofs.fixed_goods.lacks_good.Goals as goal

pub returns-then-branch : goal.returns-then-branch
returns-then-branch c =
    let good = c.as_bytes.ensures.bytes ∙ c.good-item.is ∙ get_or_default c.args.goods.now c.loop-good.good-index c.good-item.result [] c.loop-good-test.true in
    let header = ap (λ (mark : List ℕ). mark ++ c.as_bytes.result.now) (c.good_mark.ensures ∙ ap good_mark c.form.ensures) ∙ ap (λ (name : List ℕ). good_mark c.args.columns.now.form ++ name) good in
    let here = ap (λ (text : List ℕ). not (has c.args.columns.now.headers text)) (sym header) ∙ sym c.in_ok-lacks.ensures ∙ c.if-branch.true in
    sym (one_holds (λ g. not (has c.args.columns.now.headers (good_mark c.args.columns.now.form ++ text_at c.args.goods.now g))) c.loop-good.good-index (length c.args.goods.now) c.loop-good-test.true here)

pub loop-good-preserved : goal.loop-good-preserved
loop-good-preserved c =
    let good = c.as_bytes.ensures.bytes ∙ c.good-item.is ∙ get_or_default c.args.goods.now c.loop-good.good-index c.good-item.result [] c.loop-good-test.true in
    let header = ap (λ (mark : List ℕ). mark ++ c.as_bytes.result.now) (c.good_mark.ensures ∙ ap good_mark c.form.ensures) ∙ ap (λ (name : List ℕ). good_mark c.args.columns.now.form ++ name) good in
    let here = ap (λ (text : List ℕ). not (has c.args.columns.now.headers text)) (sym header) ∙ sym c.in_ok-lacks.ensures ∙ c.if-branch.false in
    none_holds (λ g. not (has c.args.columns.now.headers (good_mark c.args.columns.now.form ++ text_at c.args.goods.now g))) c.loop-good.good-index c.loop-good.invariant here
