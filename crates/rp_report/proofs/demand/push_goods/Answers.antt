use Rattle.std.proofs.Common.{◌+◌, ◌++◌, ◌∙◌, ap, sym, append_assoc, take}
use Rattle.std.proofs.lemmas.List.{get_or_read}
use Rattle.rp_report.specs.DemandText.{good_text, goods_text}
use Rattle.rp_report.proofs.Goods.{goods_more}
use Rattle.rp_report.proofs.demand.push_goods.Goals as goal

pub loop-bounds-preserved : goal.loop-bounds-preserved
loop-bounds-preserved c =
    let l = c.loop-bounds in
    let i = l.bounds-index in
    let goods = c.args.goods.now in
    let first = goods_text 0 (take i goods) in
    let here = c.bounds-item.result in
    let more = goods_more goods i here c.loop-bounds-test.true in
    record {
      counted = ap (λ k. k + 1) l.invariant.counted;
      text =
          c.in_ok-push_good.ensures
          ∙ ap (λ t. t ++ good_text l.good here) l.invariant.text
          ∙ append_assoc c.args.out.now.items first (good_text l.good here)
          ∙ ap (λ t. c.args.out.now.items ++ t) (ap (λ k. first ++ good_text k here) l.invariant.counted ∙ ap (λ b. first ++ good_text i b) (get_or_read goods i here c.loop-bounds-test.true c.bounds-item.is here) ∙ sym more);
    }
