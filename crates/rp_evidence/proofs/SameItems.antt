-- Evidence for one input is evidence for every other that agrees with it.
use Rattle.std.proofs.Common.{◌≡◌, ◌<◌, ℕ, sym, subst, ◌∙◌}
use Rattle.rp_table.proofs.SpendingLaws.{spending-same}
use Rattle.rp_evidence.specs.AfriatEvidence.{ProvesOwnAfriat}
use Rattle.rp_evidence.specs.Efficiency.{ProvesEfficiency}
use Rattle.rp_evidence.specs.Homothetic.{ProvesHomothetic}
use Rattle.rp_evidence.specs.Input.{AgreeInputs, TableInput}
use Rattle.rp_evidence.specs.Preference.{AgreeBelow}
use Rattle.rp_evidence.specs.Garp.{ProvesOwnGarp}
use Rattle.rp_evidence.specs.Proves.{Proves}
use Rattle.rp_evidence.specs.Quasilinear.{ProvesQuasilinear}
use Rattle.rp_evidence.specs.declared.certificate.Item.{Item}
use Rattle.rp_evidence.specs.declared.certificate.Item.TheVariants.{Garp as GarpItem, Afriat as AfriatItem, Efficiency as EfficiencyItem, Homothetic as HomotheticItem, Quasi as QuasiItem, Demand as DemandItem, Welfare as WelfareItem, Random as RandomItem}
use Rattle.rp_evidence.proofs.OwnLevels.{own_garp_same}
use Rattle.rp_evidence.proofs.SameAfriat.{own_afriat_same}
use Rattle.rp_evidence.proofs.SameDemand.{demand_same, welfare_same}
use Rattle.rp_evidence.proofs.SameIndex.{efficiency_same}
use Rattle.rp_evidence.proofs.SameProducts.{homothetic_same}
use Rattle.rp_evidence.proofs.SameSums.{quasilinear_same}

module _ (input other : TableInput) (agree : AgreeInputs input other) where
  costs_agree : AgreeBelow input.n input.cost other.cost
  costs_agree s t s_in t_in =
      input.sums s t s_in t_in
      ∙ (spending-same input.goods other.goods (input.price s) (input.quantity t) (other.price s) (other.quantity t) agree.goods prices quantities
      ∙ sym (other.sums s t (subst (λ m. s < m) agree.n s_in) (subst (λ m. t < m) agree.n t_in)))
    where
      prices : (g : ℕ) → g < other.goods → input.price s g ≡ other.price s g
      prices g g_in = agree.prices s g s_in (subst (λ m. g < m) (sym agree.goods) g_in)

      quantities : (g : ℕ) → g < other.goods → input.quantity t g ≡ other.quantity t g
      quantities g g_in = agree.quantities t g t_in (subst (λ m. g < m) (sym agree.goods) g_in)

  pub item_same : (item : Item) → Proves input item → Proves other item
  item_same (GarpItem verdict) p =
      subst (λ m. ProvesOwnGarp m other.levels other.cost verdict) agree.n
      (subst (λ levels. ProvesOwnGarp input.n levels other.cost verdict) agree.levels (own_garp_same input.n input.levels input.cost other.cost costs_agree verdict p))
  item_same (AfriatItem part) p =
      subst (λ m. ProvesOwnAfriat m other.levels other.cost part) agree.n
      (subst (λ levels. ProvesOwnAfriat input.n levels other.cost part) agree.levels (own_afriat_same input.n input.levels input.cost other.cost part costs_agree p))
  item_same (EfficiencyItem evidence) p = subst (λ m. ProvesEfficiency m other.cost evidence) agree.n (efficiency_same input.n input.cost other.cost evidence costs_agree p)
  item_same (HomotheticItem verdict) p = subst (λ m. ProvesHomothetic m other.cost verdict) agree.n (homothetic_same input.n input.cost other.cost verdict costs_agree p)
  item_same (QuasiItem verdict) p = subst (λ m. ProvesQuasilinear m other.cost verdict) agree.n (quasilinear_same input.n input.cost other.cost verdict costs_agree p)
  item_same (DemandItem prices m part) p = demand_same input other agree prices m part p
  item_same (WelfareItem prices of part) p = welfare_same input other agree prices of part p
  item_same (RandomItem total part) p = p
