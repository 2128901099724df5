-- The checker accepts the certificates of the program: none of their items fails.
use Rattle.std.proofs.Common.{◌≡◌, ◌||◌, ℕ, zero, suc, Bool, true, false, IsTrue, List, [], ◌∷◌, Ok, inr, subst, sym, take, slice_index_or, refl, arith}
use Rattle.rp_afriat.specs.AfriatVerdict.{IsOwnAfriatVerdict}
use Rattle.rp_check.specs.CheckVerdict.{IsCheckVerdictOnItems, IsCheckVerdict}
use Rattle.rp_check.specs.LevelsFailure.{LevelsFail}
use Rattle.rp_clauses.specs.GarpFailure.{GarpFails}
use Rattle.rp_check.specs.ItemFailure.{one_shows_garp, shows_garp}
use Rattle.rp_check.specs.declared.verdict.Verdict.TheVariants.{Accepted}
use Rattle.rp_effic.specs.EfficiencyVerdict.{IsEfficiencyVerdict}
use Rattle.rp_evidence.specs.Input.{TableInput}
use Rattle.rp_evidence.specs.Preference.{StrictByLevels, WeakByLevels}
use Rattle.rp_evidence.specs.Proves.{Proves}
use Rattle.rp_evidence.specs.declared.afriat.AfriatPart.{AfriatPart}
use Rattle.rp_evidence.specs.declared.certificate.Item.{Item}
use Rattle.rp_evidence.specs.declared.certificate.Item.TheVariants.{Garp as GarpItem, Afriat as AfriatItem, Efficiency as EfficiencyItem, Homothetic as HomotheticItem, Quasi as QuasiItem}
use Rattle.rp_evidence.specs.declared.efficiency.Efficiency.{Efficiency}
use Rattle.rp_evidence.specs.declared.garp.Garp.{Garp}
use Rattle.rp_evidence.specs.declared.homothetic.Homothetic.{Homothetic}
use Rattle.rp_evidence.specs.declared.quasilinear.Quasi.{Quasi}
use Rattle.rp_homo.specs.HomotheticVerdict.{IsHomotheticVerdict}
use Rattle.rp_quasi.specs.QuasilinearVerdict.{IsQuasilinearVerdict}
use Rattle.rp_answers.specs.Accepted.{PassesAfter}
use Rattle.rp_answers.specs.AnalysisText.{certificate_of, five_items}
use Rattle.rp_answers.specs.GarpFirst.{AreAnswered}
use Rattle.rp_answers.specs.UtilityText.{first_items}
use Rattle.rp_agreement.proofs.Accepted.{afriat_passes, efficiency_passes, garp_passes, homothetic_passes, quasilinear_passes}
use Rattle.rp_agreement.proofs.AcceptedItems.{levels_pass}

module _ (input : TableInput) (garp : Garp) (proves : Proves input (GarpItem garp)) where
  -- the verdict on the axiom
  axiom_passes : GarpFails input.n (WeakByLevels input.levels input.cost) (StrictByLevels input.levels input.cost) garp (Ok tt)
  axiom_passes = garp_passes input.n (WeakByLevels input.levels input.cost) (StrictByLevels input.levels input.cost) garp proves

  module _ (afriat : AfriatPart) (afriat_proves : Proves input (AfriatItem afriat)) (afriat_given : IsOwnAfriatVerdict input.n input.levels input.cost afriat) where
    -- the first two items
    first_pass : IsCheckVerdictOnItems input (first_items input.levels garp afriat).items Accepted
    first_pass zero k_in other = axiom_passes
    first_pass (suc zero) k_in other = afriat_passes input.n input.levels input.cost afriat afriat_proves afriat_given
    first_pass (suc (suc k)) k_in other = absurd (omega (arith, k_in))

    pub first_accepted : IsCheckVerdict input input.levels (first_items input.levels garp afriat).items Accepted
    first_accepted = inr (levels_pass input.levels, first_pass)

    -- all five
    module _ (efficiency : Efficiency) (homothetic : Homothetic) (quasilinear : Quasi) (ep : Proves input (EfficiencyItem efficiency)) (eg : IsEfficiencyVerdict input.n input.cost efficiency)
        (hp : Proves input (HomotheticItem homothetic)) (hg : IsHomotheticVerdict input.n input.cost homothetic) (qp : Proves input (QuasiItem quasilinear)) (qg : IsQuasilinearVerdict input.n input.cost quasilinear) where
      five_pass : IsCheckVerdictOnItems input (five_items garp afriat efficiency homothetic quasilinear) Accepted
      five_pass zero k_in other = axiom_passes
      five_pass (suc zero) k_in other = afriat_passes input.n input.levels input.cost afriat afriat_proves afriat_given
      five_pass (suc (suc zero)) k_in other = efficiency_passes input.n input.cost efficiency ep eg
      five_pass (suc (suc (suc zero))) k_in other = homothetic_passes input.n input.cost homothetic hp hg
      five_pass (suc (suc (suc (suc zero)))) k_in other = quasilinear_passes input.n input.cost quasilinear qp qg
      five_pass (suc (suc (suc (suc (suc k))))) k_in other = absurd (omega (arith, k_in))

      pub analysis_accepted : IsCheckVerdict input input.levels (certificate_of input.levels garp afriat efficiency homothetic quasilinear).items Accepted
      analysis_accepted = inr (levels_pass input.levels, five_pass)

  or_first : (a b : Bool) → IsTrue a → IsTrue (a || b)
  or_first true b is = refl
  or_first false b is = absurd (not_true is)
    where
      not_true : IsTrue false → ⊥
      not_true e = let wrong : false ≡ true = e in cc

  -- the verdict on the axiom, and then items that pass after it
  garp_first_pass : (count : ℕ) (P : ℕ → Item → Type 0) (others : List Item) → AreAnswered count P others → ((k : ℕ) (item : Item) → P k item → PassesAfter input garp item)
      → IsCheckVerdictOnItems input (GarpItem garp ∷ others) Accepted
  garp_first_pass count P others answered passes zero k_in other = axiom_passes
  garp_first_pass count P others answered passes (suc k) k_in other =
      passes k (slice_index_or others k other) (answered.each k other (omega (arith, k_in, answered.one_each)))
      (shows_garp (GarpItem garp) || one_shows_garp (take k others)) (or_first (shows_garp (GarpItem garp)) (one_shows_garp (take k others)))

-- the same on a table without levels
pub garp_first_accepted : (input : TableInput) → input.levels ≡ [] → (garp : Garp) (proves : Proves input (GarpItem garp)) (count : ℕ) (P : ℕ → Item → Type 0) (others : List Item) → AreAnswered count P others
    → ((k : ℕ) (item : Item) → P k item → PassesAfter input garp item) → IsCheckVerdict input [] (GarpItem garp ∷ others) Accepted
garp_first_accepted input none garp proves count P others answered passes =
    inr (subst (λ (levels : List ℕ). LevelsFail levels [] (Ok tt)) (sym none) (levels_pass []), garp_first_pass input garp proves count P others answered passes)
