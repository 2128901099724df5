-- How many goods evidence on demand has bounds of. No definition and no public clause rests on these words.
use Rattle.std.specs.Prelude.{◌≡◌, ◌<◌, ℕ, length}
use Rattle.rp_evidence.specs.declared.demand.DemandPart.{DemandPart}
use Rattle.rp_evidence.specs.declared.demand.DemandPart.TheVariants.{Bounds, NoModel}

-- bounds of so many goods, where there are any
abbrev pub HasGoods : ℕ → DemandPart → Type 0
HasGoods n (Bounds below strict inner goods) = length goods ≡ n
HasGoods n (NoModel walk) = Unit {0}

-- of good g, too
abbrev pub AreGoodsPast : ℕ → DemandPart → Type 0
AreGoodsPast g (Bounds below strict inner goods) = g < length goods
AreGoodsPast g (NoModel walk) = Unit {0}
