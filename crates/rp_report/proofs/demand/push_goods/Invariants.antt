use Rattle.std.proofs.Common.{◌≡◌, ◌++◌, take}
use Rattle.rp_report.specs.DemandText.{goods_text}
use Rattle.rp_report.proofs.demand.push_goods.Given as goal

abbrev pub invariant-loop-bounds : goal.invariant-loop-bounds
invariant-loop-bounds l = record {
  counted : l.good ≡ l.bounds-index;
  text : l.out.items ≡ l.fn.out.items ++ goods_text 0 (take l.bounds-index l.goods);
}
