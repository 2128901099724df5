-- The checker accepts the certificate of the three verdicts: none of its items fails.
use Rattle.std.proofs.Common.{◌≡◌, ℕ, zero, suc, List, arith, inr, subst, sym}
use Rattle.rp_afriat.proofs.SameVerdicts.{own_verdict_same as afriat_verdict_same}
use Rattle.rp_afriat.specs.AfriatVerdict.{IsOwnAfriatVerdict}
use Rattle.rp_agreement.proofs.Accepted.{afriat_passes, efficiency_passes, garp_passes}
use Rattle.rp_agreement.proofs.AcceptedItems.{levels_pass}
use Rattle.rp_agreement.proofs.OneFinding.{only_accepted}
use Rattle.rp_check.specs.CheckVerdict.{IsCheckVerdictOnItems, IsCheckVerdict}
use Rattle.rp_check.specs.declared.verdict.Verdict.{Verdict}
use Rattle.rp_check.specs.declared.verdict.Verdict.TheVariants.{Accepted}
use Rattle.rp_effic.proofs.SameVerdicts.{verdict_same as efficiency_verdict_same}
use Rattle.rp_effic.specs.EfficiencyVerdict.{IsEfficiencyVerdict}
use Rattle.rp_evidence.proofs.OwnLevels.{own_garp_same}
use Rattle.rp_evidence.proofs.SameAfriat.{own_afriat_same}
use Rattle.rp_evidence.proofs.SameIndex.{efficiency_same}
use Rattle.rp_evidence.specs.AfriatEvidence.{ProvesOwnAfriat}
use Rattle.rp_evidence.specs.Efficiency.{ProvesEfficiency}
use Rattle.rp_evidence.specs.Garp.{ProvesOwnGarp}
use Rattle.rp_evidence.specs.Input.{TableInput, input_of_table}
use Rattle.rp_evidence.specs.Preference.{AgreeBelow, StrictByLevels, WeakByLevels}
use Rattle.rp_evidence.specs.declared.afriat.AfriatPart.{AfriatPart}
use Rattle.rp_evidence.specs.declared.certificate.Certificate.{Certificate}
use Rattle.rp_evidence.specs.declared.efficiency.Efficiency.{Efficiency}
use Rattle.rp_evidence.specs.declared.garp.Garp.{Garp}
use Rattle.rp_table.specs.Cost.{CostTable, IsCostsOf, cost_at, cost_of}
use Rattle.rp_table.specs.Tables.{Observations, records_of}
use Rattle.example_verdict.specs.Certified.{certificate_of}

module _ (input : TableInput) (garp : Garp) (afriat : AfriatPart) (efficiency : Efficiency) where
  -- from the costs of the input
  items_pass : ProvesOwnGarp input.n input.levels input.cost garp
      → ProvesOwnAfriat input.n input.levels input.cost afriat → IsOwnAfriatVerdict input.n input.levels input.cost afriat
      → ProvesEfficiency input.n input.cost efficiency → IsEfficiencyVerdict input.n input.cost efficiency
      → IsCheckVerdictOnItems input (certificate_of input.levels garp afriat efficiency).items Accepted
  items_pass gp ap ag ep eg zero k_in other = garp_passes input.n (WeakByLevels input.levels input.cost) (StrictByLevels input.levels input.cost) garp gp
  items_pass gp ap ag ep eg (suc zero) k_in other = afriat_passes input.n input.levels input.cost afriat ap ag
  items_pass gp ap ag ep eg (suc (suc zero)) k_in other = efficiency_passes input.n input.cost efficiency ep eg
  items_pass gp ap ag ep eg (suc (suc (suc k))) k_in other = absurd (omega (arith, k_in))

module _ (table : Observations) (costs : CostTable) (is : IsCostsOf costs table) where
  agree : AgreeBelow costs.n (cost_at costs) (cost_of table)
  agree s t s_in t_in = is.each s t (rw is.size at s_in) (rw is.size at t_in)

  -- what holds by the levels and of the number of observations at the costs of a table holds so of the table
  on_table : (P : ℕ → List ℕ → Type 0) → P costs.n costs.levels → P (records_of table) table.levels
  on_table P here = subst (λ (n : ℕ). P n table.levels) is.size (subst (λ (levels : List ℕ). P costs.n levels) is.levels here)

  -- from the costs that were computed: what the checker says of the certificate
  pub certificate_accepted : (garp : Garp) (afriat : AfriatPart) (efficiency : Efficiency) (certificate : Certificate) (outcome : Verdict)
      → ProvesOwnGarp costs.n costs.levels (cost_at costs) garp
      → ProvesOwnAfriat costs.n costs.levels (cost_at costs) afriat → IsOwnAfriatVerdict costs.n costs.levels (cost_at costs) afriat
      → ProvesEfficiency costs.n (cost_at costs) efficiency → IsEfficiencyVerdict costs.n (cost_at costs) efficiency
      → certificate ≡ certificate_of table.levels garp afriat efficiency
      → IsCheckVerdict (input_of_table table) certificate.levels certificate.items outcome → outcome ≡ Accepted
  certificate_accepted garp afriat efficiency certificate outcome gp ap ag ep eg made found =
      let n = costs.n in
      let levels = costs.levels in
      let here = cost_at costs in
      let there = cost_of table in
      let input = input_of_table table in
      let garp_proves : ProvesOwnGarp input.n input.levels input.cost garp = on_table (λ n levels. ProvesOwnGarp n levels there garp) (own_garp_same n levels here there agree garp gp) in
      let afriat_proves : ProvesOwnAfriat input.n input.levels input.cost afriat = on_table (λ n levels. ProvesOwnAfriat n levels there afriat) (own_afriat_same n levels here there afriat agree ap) in
      let afriat_given : IsOwnAfriatVerdict input.n input.levels input.cost afriat = on_table (λ n levels. IsOwnAfriatVerdict n levels there afriat) (afriat_verdict_same n levels here there agree afriat ag) in
      let efficiency_proves : ProvesEfficiency input.n input.cost efficiency = rw (← is.size) (efficiency_same n here there efficiency agree ep) in
      let efficiency_given : IsEfficiencyVerdict input.n input.cost efficiency = rw (← is.size) (efficiency_verdict_same n here there efficiency agree eg) in
      only_accepted input certificate.levels certificate.items outcome
      (subst (λ made. IsCheckVerdict input made.levels made.items Accepted) (sym made)
      (inr (levels_pass table.levels, items_pass input garp afriat efficiency garp_proves afriat_proves afriat_given efficiency_proves efficiency_given)))
      found
