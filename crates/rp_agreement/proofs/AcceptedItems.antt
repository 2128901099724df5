-- A certificate that begins with a verdict on the axiom, and goes on with items as they are given from it, is accepted.
use Rattle.std.proofs.Common.{ℕ, ◌≡◌, ◌||◌, zero, suc, [], ◌∷◌, List, inr, subst, Bool, true, false, IsTrue, All, Ok, arith, refl, slice_index_or, take}
use Rattle.rp_agreement.specs.ItemVerdict.{ProvesVerdict}
use Rattle.rp_check.specs.CheckVerdict.{IsCheckVerdictOnItems, IsCheckVerdict}
use Rattle.rp_check.specs.ItemFailure.{ItemFails, one_shows_garp, shows_garp}
use Rattle.rp_check.specs.LevelsFailure.{LevelsFail}
use Rattle.rp_check.specs.declared.verdict.Verdict.TheVariants.{Accepted}
use Rattle.rp_evidence.specs.Garp.{ProvesGarp, ProvesOwnGarp}
use Rattle.rp_evidence.specs.Input.{TableInput}
use Rattle.rp_evidence.specs.Preference.{StrictByLevels, WeakByLevels}
use Rattle.rp_evidence.specs.declared.certificate.Item.{Item}
use Rattle.rp_evidence.specs.declared.certificate.Item.TheVariants.{Garp as GarpItem, Afriat as AfriatItem, Efficiency as EfficiencyItem, Homothetic as HomotheticItem, Quasi as QuasiItem, Demand as DemandItem, Welfare as WelfareItem, Random as RandomItem}
use Rattle.rp_evidence.specs.declared.garp.Garp.{Garp}
use Rattle.rp_evidence.proofs.OwnLevels.{garp_without_levels}
use Rattle.rp_agreement.proofs.Accepted.{afriat_passes, efficiency_passes, garp_passes, homothetic_passes, quasilinear_passes}
use Rattle.rp_agreement.proofs.AcceptedBounds.{demand_passes, welfare_passes}

-- the levels of a table are its levels
pub levels_pass : (levels : List ℕ) → LevelsFail levels levels (Ok tt)
levels_pass levels = (refl, ((λ t within. refl), tt))

module _ (input : TableInput) (verdict : Garp) (garp : ProvesOwnGarp input.n input.levels input.cost verdict) where
  at_one : input.levels ≡ [] → ProvesGarp input.n input.cost verdict
  at_one none =
      (garp_without_levels input.n input.cost verdict).0
      (subst (λ levels. ProvesOwnGarp input.n levels input.cost verdict) none garp)

  pub item_passes : (shown : Bool) → (IsTrue (shows_garp (GarpItem verdict)) → IsTrue shown) → (item : Item) → ProvesVerdict input verdict item → ItemFails input shown item (Ok tt)
  item_passes shown is_shown (GarpItem own) (proves, given) =
      garp_passes input.n (WeakByLevels input.levels input.cost) (StrictByLevels input.levels input.cost) own proves
  item_passes shown is_shown (AfriatItem part) (proves, given) = afriat_passes input.n input.levels input.cost part proves given
  item_passes shown is_shown (EfficiencyItem evidence) (proves, given) = efficiency_passes input.n input.cost evidence proves given
  item_passes shown is_shown (HomotheticItem own) (proves, given) = homothetic_passes input.n input.cost own proves given
  item_passes shown is_shown (QuasiItem own) (proves, given) = quasilinear_passes input.n input.cost own proves given
  item_passes shown is_shown (DemandItem prices m part) (proves, given) =
      (given.0, (demand_passes input shown verdict prices m part is_shown given.1 given.2 proves given.3, tt))
  item_passes shown is_shown (WelfareItem prices t part) (proves, given) =
      (given.0, (welfare_passes input shown verdict prices t part is_shown given.1 given.2 (at_one given.0) proves given.3, tt))
  item_passes shown is_shown (RandomItem total part) (proves, given) = absurd given

  -- the first item shows the axiom, so one of it and the next ones does
  shown_first : (a b : Bool) → IsTrue a → IsTrue (a || b)
  shown_first true b is = refl
  shown_first false b is = absurd (cc)

  items_accepted : (rest : List Item) → All (ProvesVerdict input verdict) rest → IsCheckVerdictOnItems input (GarpItem verdict ∷ rest) Accepted
  items_accepted rest all zero within other =
      garp_passes input.n (WeakByLevels input.levels input.cost) (StrictByLevels input.levels input.cost) verdict garp
  items_accepted rest all (suc k) within other =
      item_passes (one_shows_garp (take (suc k) (GarpItem verdict ∷ rest)))
      (shown_first (shows_garp (GarpItem verdict)) (one_shows_garp (take k rest)))
      (slice_index_or rest k other) (all k other (omega arith))

  pub certificate_accepted : (rest : List Item) → All (ProvesVerdict input verdict) rest → IsCheckVerdict input input.levels (GarpItem verdict ∷ rest) Accepted
  certificate_accepted rest all = inr (levels_pass input.levels, items_accepted rest all)
