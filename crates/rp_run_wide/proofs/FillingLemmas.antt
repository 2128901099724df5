-- Bounds of each asked record as `cost` makes them are as they are given; and what is filled is the same where nothing is
-- withheld.
use Rattle.std.proofs.Common.{◌≡◌, ◌∙◌, ◌<◌, ℕ, suc, List, [], ◌∷◌, All, length, slice_index_or, refl, subst, sym, arith}
use Rattle.rp_answers.specs.CostText.{AreBoundsOfEach, AreBoundsUnder}
use Rattle.rp_cost.specs.AskedOutputs.{AskedOutputs}
use Rattle.rp_cost.specs.Axioms.{IsCostVerdict, MeetsCost}
use Rattle.rp_cost.specs.Technology.{Technology}
use Rattle.rp_cost.specs.declared.axioms.Axiom.{Axiom}
use Rattle.rp_cost.specs.declared.axioms.Axiom.TheVariants.{Holds, Pair}
use Rattle.rp_cost.specs.declared.bounds.CostBounds.{CostBounds}
use Rattle.rp_evidence.specs.DemandEvidence.{withheld_bound}
use Rattle.rp_filled.specs.FilledCosts.{AreFilledBounds, AreGivenCosts, IsFilledCost}

pub given_costs : (tech : Technology) (asked : AskedOutputs) (bounds stated : List CostBounds) → stated ≡ bounds → AreBoundsOfEach tech asked bounds → AreGivenCosts tech asked stated
given_costs tech asked bounds stated same are = subst (λ (list : List CostBounds). AreGivenCosts tech asked list) (sym same) (record {
  one_each = are.one_each;
  each = λ k d l. (are.each k d (omega (arith, l, are.one_each))).given;
})

-- lists with the same entries
same_list : (one other : List CostBounds) → length other ≡ length one → ((k : ℕ) (d e : CostBounds) → k < length one → slice_index_or other k e ≡ slice_index_or one k d) → other ≡ one
same_list [] [] long each = refl
same_list [] (y ∷ ys) long each = absurd cc
same_list (x ∷ xs) [] long each = absurd cc
same_list (x ∷ xs) (y ∷ ys) long each =
    let first : y ≡ x = each 0 x y (omega arith) in
    let rest : ys ≡ xs = same_list xs ys (omega (arith, long)) (λ k d e within. each (suc k) d e (omega (arith, within))) in
    λ i. first i ∷ rest i

-- bounds of which nothing is withheld are filled with themselves
same_cost : (tech : Technology) (prices : List ℕ) (y : ℕ) (stated filled : CostBounds) → withheld_bound stated.lower ≡ 0 → IsFilledCost tech prices y stated filled → filled ≡ stated
same_cost tech prices y stated filled none is = λ i. record { upper = is.upper i; lower = is.lower.same none i }

module _ (tech : Technology) (asked : AskedOutputs) (stated filled : List CostBounds) (under : AreBoundsUnder tech asked stated) (none : All (λ bounds. withheld_bound bounds.lower ≡ 0) stated)
    (are : AreFilledBounds tech asked stated filled) where
  pub same_costs : (verdict : Axiom) → IsCostVerdict tech verdict → filled ≡ stated
  same_costs Holds is =
      let each = are.of_each (is.holds.0 refl) in
      same_list stated filled each.one_each (λ k d e within. same_cost tech _ _ (slice_index_or stated k d) (slice_index_or filled k e) (none k d within) (each.each k d e within))
  same_costs (Pair first second) is =
      let broken : MeetsCost tech → ⊥ = λ meets. (let wrong = is.holds.1 meets in cc) in
      are.none broken ∙ sym (under.none broken)
