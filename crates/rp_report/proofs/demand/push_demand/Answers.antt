use Rattle.std.proofs.lemmas.Result.{IfOk-equal}
use Rattle.std.specs.Prelude.{◌++◌, codes}
use Rattle.rp_report.specs.DemandText.{budget_line, goods_text, inner_line}
use Rattle.rp_print.specs.ListText.{line_of, ordinals_text}
use Rattle.rp_print.proofs.Texts.{five_texts, three_pieces}
use Rattle.rp_report.proofs.demand.push_demand.Goals as goal

pub returns-in_ok-push_inner-in-Bounds : goal.returns-in_ok-push_inner-in-Bounds
returns-in_ok-push_inner-in-Bounds c =
    let b = c.in-Bounds in
    rw b.is
    (IfOk-equal c.push_goods.result c.push_goods.new.out.items _ _ c.push_goods.ensures
    (rw (c.as_slice-in-Bounds-2.ensures, c.in_ok-push_inner-in-Bounds.ensures, c.in_ok-push_ordinals-in-Bounds-2.ensures, c.as_slice-in-Bounds.ensures, c.in_ok-push_ordinals-in-Bounds.ensures, c.as_slice.ensures, c.in_ok-push_budget.ensures)
    (five_texts c.args.out.now.items (budget_line c.args.prices.now c.args.m) (line_of (codes "below " ++ ordinals_text b.below)) (line_of (codes "strict " ++ ordinals_text b.strict)) (inner_line b.inner) (goods_text 0 b.goods))))

pub returns-in_ok-push_line-in-NoModel : goal.returns-in_ok-push_line-in-NoModel
returns-in_ok-push_line-in-NoModel c =
    rw c.in-NoModel.is
    (IfOk-equal c.push_ordinals-in-NoModel.result c.push_ordinals-in-NoModel.new.out.items _ _ c.push_ordinals-in-NoModel.ensures
    (rw (c.as_slice-in-NoModel.ensures, c.in_ok-push_line-in-NoModel.ensures, c.in_ok-push_budget.ensures)
    (three_pieces c.args.out.now.items (budget_line c.args.prices.now c.args.m) (line_of (codes "none")) (line_of (codes "cycle " ++ ordinals_text c.in-NoModel.walk)))))
