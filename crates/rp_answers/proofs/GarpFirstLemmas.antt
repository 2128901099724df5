-- Verdicts at the costs of a table, and certificates that begin with the verdict on the generalized axiom.
use Rattle.std.proofs.Common.{◌<◌, ℕ, List, refl, sym, subst}
use Rattle.std.proofs.lemmas.List.Elements.{All-cons}
use Rattle.rp_evidence.specs.AfriatEvidence.{ProvesOwnAfriat}
use Rattle.rp_evidence.specs.Garp.{ProvesOwnGarp}
use Rattle.rp_evidence.specs.Input.{TableInput, input_of_table}
use Rattle.rp_evidence.specs.Kinds.{IsCertificateOf, IsOfKind}
use Rattle.rp_evidence.specs.Preference.{AgreeBelow}
use Rattle.rp_evidence.specs.Proves.{Proves}
use Rattle.rp_evidence.specs.declared.afriat.AfriatPart.{AfriatPart}
use Rattle.rp_evidence.specs.declared.certificate.Certificate.{Certificate}
use Rattle.rp_evidence.specs.declared.certificate.Item.{Item}
use Rattle.rp_evidence.specs.declared.certificate.Item.TheVariants.{Garp as GarpItem, Afriat as AfriatItem, Efficiency as EfficiencyItem, Homothetic as HomotheticItem, Quasi as QuasiItem, Demand as DemandItem, Welfare as WelfareItem, Random as RandomItem}
use Rattle.rp_evidence.specs.declared.certificate.Kind.TheVariants.{Table}
use Rattle.rp_evidence.specs.declared.garp.Garp.{Garp}
use Rattle.rp_evidence.proofs.OwnLevels.{own_garp_same}
use Rattle.rp_evidence.proofs.SameAfriat.{own_afriat_same}
use Rattle.rp_afriat.specs.AfriatVerdict.{IsOwnAfriatVerdict}
use Rattle.rp_afriat.proofs.SameVerdicts.{own_verdict_same}
use Rattle.rp_garp.specs.GarpVerdict.{IsOwnGarpVerdict}
use Rattle.rp_garp.proofs.SameVerdicts.{own_garp_verdict_same}
use Rattle.rp_table.specs.Cost.{CostTable, IsCostsOf, cost_at, cost_of}
use Rattle.rp_table.specs.Tables.{Observations, records_of}
use Rattle.rp_answers.specs.GarpFirst.{IsGarpFirst}

module _ (costs : CostTable) (table : Observations) (is : IsCostsOf costs table) where
  same : AgreeBelow costs.n (cost_at costs) (cost_of table)
  same s t s_in t_in = is.each s t (rw is.size at s_in) (rw is.size at t_in)

  -- what holds by the levels and of the number of observations at the costs of a table holds so of the table
  on_table : (P : ℕ → List ℕ → Type 0) → P costs.n costs.levels → P (records_of table) table.levels
  on_table P here = subst (λ (n : ℕ). P n table.levels) is.size (subst (λ (levels : List ℕ). P costs.n levels) is.levels here)

  -- a verdict at the costs of a table is one of the table
  pub garp_there : (verdict : Garp) → ProvesOwnGarp costs.n costs.levels (cost_at costs) verdict → Proves (input_of_table table) (GarpItem verdict)
  garp_there verdict proves =
      on_table (λ n levels. ProvesOwnGarp n levels (cost_of table) verdict) (own_garp_same costs.n costs.levels (cost_at costs) (cost_of table) same verdict proves)

  pub garp_given_there : (verdict : Garp) → IsOwnGarpVerdict costs.n costs.levels (cost_at costs) verdict → IsOwnGarpVerdict (records_of table) table.levels (cost_of table) verdict
  garp_given_there verdict given =
      on_table (λ n levels. IsOwnGarpVerdict n levels (cost_of table) verdict) (own_garp_verdict_same costs.n (cost_at costs) (cost_of table) same costs.levels verdict given)

  pub afriat_there : (part : AfriatPart) → ProvesOwnAfriat costs.n costs.levels (cost_at costs) part → Proves (input_of_table table) (AfriatItem part)
  afriat_there part proves =
      on_table (λ n levels. ProvesOwnAfriat n levels (cost_of table) part) (own_afriat_same costs.n costs.levels (cost_at costs) (cost_of table) part same proves)

  pub afriat_given_there : (part : AfriatPart) → IsOwnAfriatVerdict costs.n costs.levels (cost_at costs) part → IsOwnAfriatVerdict (records_of table) table.levels (cost_of table) part
  afriat_given_there part given =
      on_table (λ n levels. IsOwnAfriatVerdict n levels (cost_of table) part) (own_verdict_same costs.n costs.levels (cost_at costs) (cost_of table) same part given)

-- an item that proves its verdict on a table may stand in a certificate on one
proved_of_table : (input : TableInput) (item : Item) → Proves input item → IsOfKind Table item
proved_of_table input (GarpItem verdict) proves = tt
proved_of_table input (AfriatItem evidence) proves = tt
proved_of_table input (EfficiencyItem evidence) proves = tt
proved_of_table input (HomotheticItem verdict) proves = tt
proved_of_table input (QuasiItem verdict) proves = tt
proved_of_table input (DemandItem prices m evidence) proves = tt
proved_of_table input (WelfareItem prices t evidence) proves = tt
proved_of_table input (RandomItem total evidence) proves = absurd proves

-- so a certificate whose items prove theirs is one on a table
pub garp_first_of_table : (input : TableInput) (count : ℕ) (P : Garp → ℕ → Item → Type 0) (certificate : Certificate) → IsGarpFirst input count P certificate
    → ((garp : Garp) (k : ℕ) (item : Item) → P garp k item → Proves input item) → IsCertificateOf Table certificate
garp_first_of_table input count P certificate first proves =
    subst (λ (c : Certificate). IsCertificateOf Table c) (sym first.items)
    (refl, All-cons (IsOfKind Table) (GarpItem first.garp) first.others tt (λ k d k_in. proved_of_table input _ (proves first.garp k _ (first.answered.each k d (subst (λ n. k < n) first.answered.one_each k_in)))))
