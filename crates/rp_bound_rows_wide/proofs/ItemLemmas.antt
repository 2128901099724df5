-- One item of a certificate beside the verdict on the axiom: the checker accepts both, they are read back, and so is it
-- with what is found for the item.
use Rattle.std.proofs.Common.{◌≡◌, ◌<◌, ◌++◌, ◌∷◌, [], ℕ, zero, suc, List, All, Ok, ap, arith, inl, length, refl, subst, sym, slice_index_or, ◌∙◌}
use Rattle.std.proofs.lemmas.List.{get_or_push, length_push}
use Rattle.rp_agreement.specs.ItemVerdict.{ProvesVerdict}
use Rattle.rp_agreement.specs.ReadBack.{IsReadBack, certificate_from}
use Rattle.rp_agreement.proofs.AcceptedItems.{certificate_accepted}
use Rattle.rp_agreement.proofs.ItemsFit.{item_fits, table_limited}
use Rattle.rp_agreement.proofs.Lists.{walk_fits}
use Rattle.rp_agreement.proofs.SameValues.{text_read_back}
use Rattle.rp_check.specs.CheckVerdict.{IsCheckVerdict}
use Rattle.rp_check.specs.ItemFailure.{ItemFails}
use Rattle.rp_check.specs.declared.verdict.Verdict.TheVariants.{Accepted}
use Rattle.rp_evidence.specs.Certificates.{table_certificate}
use Rattle.rp_evidence.specs.DemandEvidence.{ProvesDemand, ProvesWelfare, budget_of}
use Rattle.rp_evidence.specs.Garp.{ProvesGarp, ProvesOwnGarp}
use Rattle.rp_evidence.specs.Input.{TableInput, input_of_table}
use Rattle.rp_evidence.specs.Preference.{IsWeak}
use Rattle.rp_evidence.specs.Proves.{Proves}
use Rattle.rp_evidence.proofs.OwnLevels.{garp_without_levels}
use Rattle.rp_evidence.specs.declared.certificate.Certificate.{Certificate}
use Rattle.rp_evidence.specs.declared.certificate.Item.{Item}
use Rattle.rp_evidence.specs.declared.certificate.Item.TheVariants.{Garp as GarpItem, Demand as DemandItem, Welfare as WelfareItem}
use Rattle.rp_evidence.specs.declared.certificate.Kind.TheVariants.{Table}
use Rattle.rp_evidence.specs.declared.demand.DemandPart.{DemandPart}
use Rattle.rp_evidence.specs.declared.demand.WelfarePart.{WelfarePart}
use Rattle.rp_evidence.specs.declared.garp.Garp.{Garp}
use Rattle.rp_evidence.specs.declared.garp.Garp.TheVariants.{Cycle, Ranks}
use Rattle.rp_filled.specs.Filled.{IsFilledCertificate, IsFilledDemand, IsFilledItem, IsFilledWelfare}
use Rattle.rp_filled.proofs.CertificateLemmas.{items_pass}
use Rattle.rp_garp.specs.Test.{IsTestOf}
use Rattle.rp_garp.specs.declared.garp_test.GarpTest.{GarpTest}
use Rattle.rp_garp.proofs.TestLemmas.{judged_in_table}
use Rattle.rp_json.specs.Denoted.{FitsKind}
use Rattle.rp_json_tests.specs.Limits.{FitsGarp}
use Rattle.rp_people.specs.Says.{Says, SaysDemand, SaysWelfare}
use Rattle.rp_support.specs.DemandVerdict.{IsDemandVerdict}
use Rattle.rp_table.specs.Cost.{cost_of}
use Rattle.rp_table.specs.Limits.{IsExpenditure}
use Rattle.rp_table.specs.NewPrices.{AreNewPrices}
use Rattle.rp_table.specs.Tables.{IsTable, Observations, goods_of, records_of}
use Rattle.rp_welfare.specs.WelfareVerdict.{IsWelfareVerdict}
use Rattle.rp_bound_rows.specs.SmallParts.{HasSmallDemand, HasSmallWelfare}
use Rattle.rp_bound_rows_wide.specs.InnerItems.{HasSmallRanks, IsFoundBeside}
use Rattle.rp_bound_rows_wide.proofs.SmallLemmas.{small_demand, small_welfare}

module _ (table : Observations) (none : table.levels ≡ []) (tested : GarpTest) (is : IsTestOf table tested) where
  judged : ProvesGarp (records_of table) (cost_of table) tested.garp
  judged = judged_in_table table none tested is

  own : ProvesOwnGarp (records_of table) table.levels (cost_of table) tested.garp
  own = subst (λ (levels : List ℕ). ProvesOwnGarp (records_of table) levels (cost_of table) tested.garp) (sym none)
      ((garp_without_levels (records_of table) (cost_of table) tested.garp).1 judged)

  ranks_fit : (garp : Garp) → ProvesGarp (records_of table) (cost_of table) garp → HasSmallRanks garp → FitsGarp garp
  ranks_fit (Ranks ranks) proves small = small
  ranks_fit (Cycle walk) proves small = walk_fits (records_of table) is.valid.few_records (IsWeak (cost_of table)) walk proves.0

  module _ (item : Item) (given : ProvesVerdict (input_of_table table) tested.garp item) where
    alone : All (ProvesVerdict (input_of_table table) tested.garp) (item ∷ [])
    alone zero d within = given
    alone (suc k) d within = absurd (omega (arith, within))

    both_fit : HasSmallRanks tested.garp → All (FitsKind Table) (GarpItem tested.garp ∷ item ∷ [])
    both_fit small zero d within = (tt, ranks_fit tested.garp judged small)
    both_fit small (suc zero) d within = item_fits (input_of_table table) (table_limited table is.valid) tested.garp item given
    both_fit small (suc (suc k)) d within = absurd (omega (arith, within))

    module _ (made : Certificate) (e : made ≡ certificate_from [] tested.garp (item ∷ [])) where
      pub made_accepted : IsCheckVerdict (input_of_table table) made.levels made.items Accepted
      made_accepted =
          subst (λ (c : Certificate). IsCheckVerdict (input_of_table table) c.levels c.items Accepted) (sym e)
          (subst (λ (levels : List ℕ). IsCheckVerdict (input_of_table table) levels (GarpItem tested.garp ∷ item ∷ []) Accepted) none
          (certificate_accepted (input_of_table table) tested.garp own (item ∷ []) alone))

      pub made_read_back : HasSmallRanks tested.garp → IsReadBack Table made
      made_read_back small =
          subst (λ (c : Certificate). IsReadBack Table c) (sym e)
          (text_read_back Table (certificate_from [] tested.garp (item ∷ [])) (record { of_kind = refl; levels = inl (refl, refl); items = both_fit small }))

-- the item that is found is the last one of the certificate that is filled
module _ (input : TableInput) (garp : Garp) (stated found : Item) (filled : Certificate) (rest : List Item) (is : IsFilledCertificate input (certificate_from [] garp (stated ∷ [])) filled) (last : filled.items ≡ rest ++ found ∷ []) where
  two : length filled.items ≡ 2
  two = is.items.one_each

  at_one : (d : Item) → slice_index_or filled.items 1 d ≡ found
  at_one d =
      subst (λ (items : List Item). slice_index_or items 1 d ≡ found) (sym last)
      (get_or_push rest found d 1 (omega (arith, subst (λ (items : List Item). length items ≡ 2) last two, length_push rest found)))

  pub found_last : IsFoundBeside input stated found
  found_last =
      let within : 1 < length filled.items = omega (arith, two) in
      let passes = items_pass input filled.levels filled.items is.accepted 1 found within in record {
        from_stated = subst (λ (item : Item). IsFilledItem stated item) (at_one found) (is.items.each 1 found found (omega arith));
        proves = subst (λ (item : Item). Proves input item) (at_one found) (is.proves 1 found within);
        says = subst (λ (item : Item). Says input item) (at_one found) (is.says 1 found within);
        passes = (passes.0, subst (λ (item : Item). ItemFails input passes.0 item (Ok tt)) (at_one found) passes.1);
      }

pub found_beside : (input : TableInput) (garp : Garp) (stated found : Item) (made filled : Certificate) (rest : List Item) → made ≡ certificate_from [] garp (stated ∷ []) → IsFilledCertificate input made filled → filled.items ≡ rest ++ found ∷ []
    → IsFoundBeside input stated found
found_beside input garp stated found made filled rest e is last =
    found_last input garp stated found filled rest (subst (λ (c : Certificate). IsFilledCertificate input c filled) e is) last

-- the certificate of the two items, from what the calls that make it say
pub made_of : (levels : List ℕ) (garp copy : Garp) (item : Item) (both : List Item) (made : Certificate) → levels ≡ [] → copy ≡ garp → both ≡ GarpItem copy ∷ item ∷ [] → made ≡ table_certificate levels both
    → made ≡ certificate_from [] garp (item ∷ [])
made_of levels garp copy item both made none same are e =
    e ∙ ap (λ (l : List ℕ). table_certificate l both) none
    ∙ ap (λ (items : List Item). table_certificate [] items) (are ∙ ap (λ (g : Garp). GarpItem g ∷ item ∷ []) same)

pub two_items : (input : TableInput) (garp : Garp) (stated : Item) (made filled : Certificate) → made ≡ certificate_from [] garp (stated ∷ []) → IsFilledCertificate input made filled → length filled.items ≡ 2
two_items input garp stated made filled e is = is.items.one_each ∙ ap (λ (c : Certificate). length c.items) e

-- ---- demand

module _ (table : Observations) (none : table.levels ≡ []) (garp : Garp) (prices kept : List ℕ) (same : kept ≡ prices) (new : AreNewPrices (goods_of table) prices) where
  pub demand_given : (m : ℕ) (part : DemandPart) → IsExpenditure m → ProvesDemand (input_of_table table) prices m part → IsDemandVerdict (input_of_table table) (budget_of prices m) garp part
      → ProvesVerdict (input_of_table table) garp (DemandItem kept m part)
  demand_given m part spends proves given =
      subst (λ (list : List ℕ). ProvesVerdict (input_of_table table) garp (DemandItem list m part)) (sym same) (proves, (none, new, spends, given))

  pub welfare_given : (t : ℕ) (part : WelfarePart) → t < records_of table → ProvesWelfare (input_of_table table) prices t part → IsWelfareVerdict (input_of_table table) prices t garp part
      → ProvesVerdict (input_of_table table) garp (WelfareItem kept t part)
  welfare_given t part observed proves given =
      subst (λ (list : List ℕ). ProvesVerdict (input_of_table table) garp (WelfareItem list t part)) (sym same) (proves, (none, new, observed, given))

-- what is found for demand is demand at the same prices with the same expenditure
abbrev pub IsFoundDemandPart : TableInput → List ℕ → ℕ → DemandPart → DemandPart → Type 0
IsFoundDemandPart input prices m stated found = IsFilledDemand stated found × ProvesDemand input prices m found × SaysDemand input prices m found × HasSmallDemand found

pub demand_found : (input : TableInput) (prices kept : List ℕ) (m : ℕ) (stated : DemandPart) (found : Item) → kept ≡ prices → IsFoundBeside input (DemandItem kept m stated) found
    → (part : DemandPart) × (found ≡ DemandItem prices m part) × IsFoundDemandPart input prices m stated part
demand_found input prices kept m stated found same is =
    let part = is.from_stated.0 in
    let e : found ≡ DemandItem prices m part = is.from_stated.1 ∙ ap (λ (list : List ℕ). DemandItem list m part) same in
    let passes = subst (λ (item : Item). ItemFails input is.passes.0 item (Ok tt)) e is.passes.1 in
    (part, e, (is.from_stated.2, subst (λ (item : Item). Proves input item) e is.proves, subst (λ (item : Item). Says input item) e is.says, small_demand input is.passes.0 prices m part passes.1.0))

abbrev pub IsFoundWelfarePart : TableInput → List ℕ → ℕ → WelfarePart → WelfarePart → Type 0
IsFoundWelfarePart input prices t stated found = IsFilledWelfare stated found × ProvesWelfare input prices t found × SaysWelfare input prices t found × HasSmallWelfare found

module _ (table : Observations) (valid : IsTable table) (prices kept : List ℕ) (new : AreNewPrices (goods_of table) prices) (same : kept ≡ prices) where
  pub welfare_found : (t : ℕ) (stated : WelfarePart) (found : Item) → IsFoundBeside (input_of_table table) (WelfareItem kept t stated) found
      → (part : WelfarePart) × (found ≡ WelfareItem prices t part) × IsFoundWelfarePart (input_of_table table) prices t stated part
  welfare_found t stated found is =
      let part = is.from_stated.0 in
      let e : found ≡ WelfareItem prices t part = is.from_stated.1 ∙ ap (λ (list : List ℕ). WelfareItem list t part) same in
      let passes = subst (λ (item : Item). ItemFails (input_of_table table) is.passes.0 item (Ok tt)) e is.passes.1 in
      (part, e, (is.from_stated.2, subst (λ (item : Item). Proves (input_of_table table) item) e is.proves, subst (λ (item : Item). Says (input_of_table table) item) e is.says, small_welfare table valid prices new is.passes.0 t part passes.1.0))

-- the part of an item, by which it is told from others
demand_in : DemandPart → Item → DemandPart
demand_in other (DemandItem prices m part) = part
demand_in other _ = other

welfare_in : WelfarePart → Item → WelfarePart
welfare_in other (WelfareItem prices t part) = part
welfare_in other _ = other

pub demand_part : (input : TableInput) (prices kept p : List ℕ) (m k : ℕ) (stated part : DemandPart) (found : Item) → kept ≡ prices → IsFoundBeside input (DemandItem kept m stated) found → found ≡ DemandItem p k part
    → IsFoundDemandPart input prices m stated part
unfolding demand_in demand_found
demand_part input prices kept p m k stated part found same is e =
    let there = demand_found input prices kept m stated found same is in
    subst (λ (d : DemandPart). IsFoundDemandPart input prices m stated d) (ap (demand_in stated) (sym there.1 ∙ e)) there.2

pub welfare_part : (table : Observations) → IsTable table → (prices kept p : List ℕ) (t k : ℕ) (stated part : WelfarePart) (found : Item) → AreNewPrices (goods_of table) prices → kept ≡ prices
    → IsFoundBeside (input_of_table table) (WelfareItem kept t stated) found → found ≡ WelfareItem p k part → IsFoundWelfarePart (input_of_table table) prices t stated part
unfolding welfare_in welfare_found
welfare_part table valid prices kept p t k stated part found new same is e =
    let there = welfare_found table valid prices kept new same t stated found is in
    subst (λ (d : WelfarePart). IsFoundWelfarePart (input_of_table table) prices t stated d) (ap (welfare_in stated) (sym there.1 ∙ e)) there.2
