-- Items on demand and on welfare, from what the calls that give them say.
use Rattle.std.proofs.Common.{◌≡◌, ◌<◌, ◌≤◌, ℕ, List, [], arith, length, refl, sym, subst}
use Rattle.std.specs.List.{All}
use Rattle.rp_evidence.specs.DemandEvidence.{ProvesDemand, ProvesWelfare, budget_of}
use Rattle.rp_evidence.specs.Garp.{ProvesGarp}
use Rattle.rp_evidence.specs.Input.{TableInput}
use Rattle.rp_evidence.specs.declared.certificate.Item.TheVariants.{Demand, Welfare}
use Rattle.rp_evidence.specs.declared.demand.DemandPart.{DemandPart}
use Rattle.rp_evidence.specs.declared.demand.WelfarePart.{WelfarePart}
use Rattle.rp_evidence.specs.declared.garp.Garp.{Garp}
use Rattle.rp_people.specs.TableChoices.{IsFullInput}
use Rattle.rp_people.proofs.SaysOfItems.{says}
use Rattle.rp_support.specs.DemandVerdict.{IsDemandVerdict}
use Rattle.rp_table.specs.Limits.{IsPrice}
use Rattle.rp_limits.specs.declared.table.TheConstants.{LARGEST_EXPENDITURE}
use Rattle.rp_welfare.specs.WelfareVerdict.{IsWelfareVerdict}
use Rattle.rp_answers.specs.DemandText.{IsDemandItem}
use Rattle.rp_answers.specs.WelfareText.{IsWelfareItem}
use Rattle.rp_agreement.proofs.AcceptedBounds.{demand_passes, welfare_passes}
use Rattle.rp_table.specs.NewPrices.{AreNewPrices}
use Rattle.rp_agreement.specs.Limited.{IsLimited}
use Rattle.rp_agreement.proofs.BoundsFit.{demand_fits, welfare_fits}

module _ (input : TableInput) (none : input.levels ≡ []) (limited : IsLimited input) (full : IsFullInput input) (garp : Garp) (prices kept : List ℕ) (same : kept ≡ prices) (one_each : length prices ≡ input.goods) (limits : All IsPrice prices) where
  new : AreNewPrices input.goods prices
  new = record { one_each = one_each; fit = limits }

  pub demand_record : (m : ℕ) (evidence : DemandPart) → 1 ≤ m → m ≤ LARGEST_EXPENDITURE → ProvesDemand input prices m evidence → IsDemandVerdict input (budget_of prices m) garp evidence
      → IsDemandItem input garp prices m (Demand kept m evidence)
  demand_record m evidence least most proves given =
      subst (λ (list : List ℕ). IsDemandItem input garp prices m (Demand list m evidence)) (sym same) (record {
        evidence = evidence;
        on_budget = refl;
        proves = proves;
        says = says input full (Demand prices m evidence) proves;
        priced = λ g g_in. (limits g 0 (omega (arith, one_each))).0;
        given = given;
        passes = λ by_ranks before. (none, (demand_passes input by_ranks garp prices m evidence before new (least, most) proves given, tt));
        readable = (tt, demand_fits input limited prices new m (least, most) garp evidence proves given);
      })

  pub welfare_record : (t : ℕ) (evidence : WelfarePart) → t < input.n → ProvesGarp input.n input.cost garp → ProvesWelfare input prices t evidence → IsWelfareVerdict input prices t garp evidence
      → IsWelfareItem input garp prices t (Welfare kept t evidence)
  welfare_record t evidence t_in verdict proves given =
      subst (λ (list : List ℕ). IsWelfareItem input garp prices t (Welfare list t evidence)) (sym same) (record {
        evidence = evidence;
        of_observation = refl;
        proves = proves;
        says = says input full (Welfare prices t evidence) proves;
        given = given;
        passes = λ by_ranks before. (none, (welfare_passes input by_ranks garp prices t evidence before new t_in verdict proves given, tt));
        readable = (tt, welfare_fits input limited prices new t t_in garp evidence proves given);
      })
