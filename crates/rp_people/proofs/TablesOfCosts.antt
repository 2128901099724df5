-- What verdicts on costs say of the people of each table that has these costs.
use Rattle.std.proofs.Common.{ℕ, ◌<◌, List, subst}
use Rattle.rp_table.specs.Cost.{CostTable, IsCostsOf, cost_at, cost_of}
use Rattle.rp_table.specs.Tables.{IsTable, Observations, records_of}
use Rattle.rp_evidence.specs.AfriatEvidence.{ProvesOwnAfriat}
use Rattle.rp_evidence.specs.Efficiency.{ProvesEfficiency}
use Rattle.rp_evidence.specs.Garp.{ProvesOwnGarp}
use Rattle.rp_evidence.specs.Homothetic.{ProvesHomothetic}
use Rattle.rp_evidence.specs.Input.{input_of_table}
use Rattle.rp_evidence.specs.Preference.{AgreeBelow, StrictByLevels, WeakByLevels}
use Rattle.rp_evidence.specs.Proves.{Proves}
use Rattle.rp_evidence.specs.Quasilinear.{ProvesQuasilinear}
use Rattle.rp_evidence.specs.declared.afriat.AfriatPart.{AfriatPart}
use Rattle.rp_evidence.specs.declared.certificate.Item.{Item}
use Rattle.rp_evidence.specs.declared.certificate.Item.TheVariants.{Garp as GarpItem, Afriat as AfriatItem}
use Rattle.rp_evidence.specs.declared.certificate.Item.TheVariants.{Efficiency as EfficiencyItem}
use Rattle.rp_evidence.specs.declared.certificate.Item.TheVariants.{Homothetic as HomotheticItem, Quasi as QuasiItem}
use Rattle.rp_evidence.specs.declared.efficiency.Efficiency.{Efficiency}
use Rattle.rp_evidence.specs.declared.garp.Garp.{Garp}
use Rattle.rp_evidence.specs.declared.homothetic.Homothetic.{Homothetic}
use Rattle.rp_evidence.specs.declared.quasilinear.Quasi.{Quasi}
use Rattle.rp_evidence.proofs.OwnLevels.{own_garp_same, strict_by_levels_same, weak_by_levels_same}
use Rattle.rp_evidence.proofs.SameAfriat.{own_afriat_same}
use Rattle.rp_evidence.proofs.SameIndex.{efficiency_same}
use Rattle.rp_evidence.proofs.SameProducts.{homothetic_same}
use Rattle.rp_evidence.proofs.SameSums.{quasilinear_same}
use Rattle.rp_people.specs.Rationalizing.{NoneHasBoth}
use Rattle.rp_people.specs.Says.{Says, SaysAfriat, SaysEfficiency, SaysHomothetic, SaysOfChoices, SaysQuasilinear}
use Rattle.rp_people.specs.TableChoices.{choices_of}
use Rattle.rp_people.specs.TablesOfCosts.{OfEachTable}
use Rattle.rp_people.proofs.FullTables.{table_is_full}
use Rattle.rp_people.proofs.SaysOfItems.{says}
use Rattle.rp_people.proofs.TableLaws.{pair_contradicts}

module _ (costs : CostTable) (table : Observations) (valid : IsTable table) (is : IsCostsOf costs table) where
  same : AgreeBelow costs.n (cost_at costs) (cost_of table)
  same s t a b = is.each s t (rw is.size at a) (rw is.size at b)

  on_table : (P : ℕ → List ℕ → Type 0) → P costs.n costs.levels → P (records_of table) table.levels
  on_table P here = subst (λ (n : ℕ). P n table.levels) is.size (subst (λ (levels : List ℕ). P costs.n levels) is.levels here)

  item_says : (item : Item) → Proves (input_of_table table) item → Says (input_of_table table) item
  item_says = says (input_of_table table) (table_is_full table valid)

  garp_there : (verdict : Garp) → ProvesOwnGarp costs.n costs.levels (cost_at costs) verdict → SaysOfChoices (choices_of (input_of_table table)) verdict
  garp_there verdict proves =
      item_says (GarpItem verdict) (on_table (λ n levels. ProvesOwnGarp n levels (cost_of table) verdict) (own_garp_same costs.n costs.levels (cost_at costs) (cost_of table) same verdict proves))

  afriat_there : (part : AfriatPart) → ProvesOwnAfriat costs.n costs.levels (cost_at costs) part → SaysAfriat (input_of_table table) part
  afriat_there part proves =
      item_says (AfriatItem part) (on_table (λ n levels. ProvesOwnAfriat n levels (cost_of table) part) (own_afriat_same costs.n costs.levels (cost_at costs) (cost_of table) part same proves))

  efficiency_there : (evidence : Efficiency) → ProvesEfficiency costs.n (cost_at costs) evidence → SaysEfficiency (input_of_table table) evidence
  efficiency_there evidence proves =
      item_says (EfficiencyItem evidence) (on_table (λ n levels. ProvesEfficiency n (cost_of table) evidence) (efficiency_same costs.n (cost_at costs) (cost_of table) evidence same proves))

  homothetic_there : (verdict : Homothetic) → ProvesHomothetic costs.n (cost_at costs) verdict → SaysHomothetic (input_of_table table) verdict
  homothetic_there verdict proves =
      item_says (HomotheticItem verdict) (on_table (λ n levels. ProvesHomothetic n (cost_of table) verdict) (homothetic_same costs.n (cost_at costs) (cost_of table) verdict same proves))

  quasilinear_there : (verdict : Quasi) → ProvesQuasilinear costs.n (cost_at costs) verdict → SaysQuasilinear (input_of_table table) verdict
  quasilinear_there verdict proves =
      item_says (QuasiItem verdict) (on_table (λ n levels. ProvesQuasilinear n (cost_of table) verdict) (quasilinear_same costs.n (cost_at costs) (cost_of table) verdict same proves))

  pair_there : (s t : ℕ) → s < costs.n → t < costs.n → WeakByLevels costs.levels (cost_at costs) s t → StrictByLevels costs.levels (cost_at costs) t s → NoneHasBoth (choices_of (input_of_table table)) s t
  pair_there s t a b weak strict =
      let w = (weak_by_levels_same costs.n costs.levels (cost_at costs) (cost_of table) same s t a b).0 weak in
      let z = (strict_by_levels_same costs.n costs.levels (cost_at costs) (cost_of table) same t s b a).0 strict in
      pair_contradicts (input_of_table table) (table_is_full table valid) s t (rw is.size at a) (rw is.size at b)
      (subst (λ (levels : List ℕ). WeakByLevels levels (cost_of table) s t) is.levels w) (subst (λ (levels : List ℕ). StrictByLevels levels (cost_of table) t s) is.levels z)

module _ (costs : CostTable) where
  pub garp_of_each : (verdict : Garp) → ProvesOwnGarp costs.n costs.levels (cost_at costs) verdict → OfEachTable costs (λ input. SaysOfChoices (choices_of input) verdict)
  garp_of_each verdict proves = λ table valid is. garp_there costs table valid is verdict proves

  pub afriat_of_each : (part : AfriatPart) → ProvesOwnAfriat costs.n costs.levels (cost_at costs) part → OfEachTable costs (λ input. SaysAfriat input part)
  afriat_of_each part proves = λ table valid is. afriat_there costs table valid is part proves

  pub efficiency_of_each : (evidence : Efficiency) → ProvesEfficiency costs.n (cost_at costs) evidence → OfEachTable costs (λ input. SaysEfficiency input evidence)
  efficiency_of_each evidence proves = λ table valid is. efficiency_there costs table valid is evidence proves

  pub homothetic_of_each : (verdict : Homothetic) → ProvesHomothetic costs.n (cost_at costs) verdict → OfEachTable costs (λ input. SaysHomothetic input verdict)
  homothetic_of_each verdict proves = λ table valid is. homothetic_there costs table valid is verdict proves

  pub quasilinear_of_each : (verdict : Quasi) → ProvesQuasilinear costs.n (cost_at costs) verdict → OfEachTable costs (λ input. SaysQuasilinear input verdict)
  quasilinear_of_each verdict proves = λ table valid is. quasilinear_there costs table valid is verdict proves

  pub pair_of_each : (s t : ℕ) → s < costs.n → t < costs.n → WeakByLevels costs.levels (cost_at costs) s t → StrictByLevels costs.levels (cost_at costs) t s
      → OfEachTable costs (λ input. NoneHasBoth (choices_of input) s t)
  pair_of_each s t a b weak strict = λ table valid is. pair_there costs table valid is s t a b weak strict
