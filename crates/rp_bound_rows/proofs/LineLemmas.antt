-- Lines by evidence: how many goods it has bounds of.
use Rattle.std.proofs.Common.{◌<◌, ℕ, List, arith}
use Rattle.rp_evidence.specs.DemandEvidence.{ProvesDemand}
use Rattle.rp_evidence.specs.Input.{TableInput}
use Rattle.rp_evidence.specs.declared.demand.DemandPart.{DemandPart}
use Rattle.rp_evidence.specs.declared.demand.DemandPart.TheVariants.{Bounds, NoModel}
use Rattle.rp_bound_rows.specs.InnerParts.{AreGoodsPast, HasGoods}

pub has_goods : (input : TableInput) (prices : List ℕ) (m : ℕ) (part : DemandPart) → ProvesDemand input prices m part → HasGoods input.goods part
has_goods input prices m (Bounds below strict inner goods) proves = proves.1.one_each
has_goods input prices m (NoModel walk) proves = tt

pub goods_past : (n g : ℕ) (part : DemandPart) → HasGoods n part → g < n → AreGoodsPast g part
goods_past n g (Bounds below strict inner goods) has good = omega (arith, has, good)
goods_past n g (NoModel walk) has good = tt
