-- What a finished search says of walks.
use Rattle.std.proofs.Common.{◌≡◌, ◌≢◌, ◌<◌, ◌+◌, ◌↔◌, ℕ, Bool, List, length, inl, inr, sym, subst, arith, get_or}
use Rattle.rp_evidence.specs.Walk.{IsWalk, IsShortestWalk, Reaches}
use Rattle.rp_evidence.proofs.SameCosts.{walk_same, walk_same_back}
use Rattle.rp_evidence.proofs.Walks.{walks_by_weaker}
use Rattle.rp_pref.specs.InnerSearch.{IsStepIn, AreDepths, AreLeastDepths, IsNoted}

-- ---- walks by the table are walks by the steps that it tells

-- a walk of as many steps as the least depth is a shortest one
pub shortest_by_depth : (table : List Bool) (n s t : ℕ) (depths : List ℕ) (step : ℕ → ℕ → Type 0) → ((a b : ℕ) → a < n → b < n → IsStepIn table n a b ↔ step a b) → AreLeastDepths table n s depths → (walk : List ℕ) → IsWalk n (IsStepIn table n) s t walk → length walk ≡ get_or depths t 0 + 1 → 0 < get_or depths t 0 → IsShortestWalk n step s t walk
shortest_by_depth table n s t depths step same least walk h e p = record {
  leads = walk_same n (IsStepIn table n) step same s t walk h;
  has_step = omega arith;
  fewest = λ other k l. let r = least t other (walk_same_back n (IsStepIn table n) step same s t other k) l in omega (arith, r.1);
}

-- ---- walks by what was noted are walks by the table

pub walks_by_notes : (table : List Bool) (n s : ℕ) (depths before : List ℕ) → AreDepths table n s depths before → (p t : ℕ) (walk : List ℕ) → IsWalk n (IsNoted s depths before) p t walk → IsWalk n (IsStepIn table n) p t walk
walks_by_notes table n s depths before are = walks_by_weaker n (IsNoted s depths before) (IsStepIn table n) is_step
  where
    is_step : (p t : ℕ) → p < n → t < n → IsNoted s depths before p t → IsStepIn table n p t
    is_step p t a b (inl h) = subst (λ x. IsStepIn table n x t) (sym h.1) (are.first t b h.0)
    is_step p t a b (inr h) = subst (λ x. IsStepIn table n x t) (sym h.1) (are.later_step t b h.0)

-- ---- the answers over the table are answers over the steps that it tells

module _ (n m s t : ℕ) (size : n ≡ m) (told table : List Bool) (is_table : told ≡ table) (step : ℕ → ℕ → Type 0) (same : (a b : ℕ) → a < m → b < m → IsStepIn table m a b ↔ step a b) (depths before : List ℕ) (are : AreDepths told n s depths before) (least : AreLeastDepths told n s depths) where
  are_here : AreDepths table m s depths before
  are_here = subst (λ k. AreDepths table k s depths before) size (subst (λ x. AreDepths x n s depths before) is_table are)

  least_here : AreLeastDepths table m s depths
  least_here = subst (λ k. AreLeastDepths table k s depths) size (subst (λ x. AreLeastDepths x n s depths) is_table least)

  pub none_by_search : get_or depths t 0 ≡ 0 → ¬ Reaches m step s t
  none_by_search none r =
      absurd (omega (arith, (least_here t r.0 (walk_same_back m (IsStepIn table m) step same s t r.0 r.1) r.2).0))

  pub shortest_by_search : (walk : List ℕ) → IsWalk n (IsNoted s depths before) s t walk → length walk ≡ get_or depths t 0 + 1 → get_or depths t 0 ≢ 0 → IsShortestWalk m step s t walk
  shortest_by_search walk h e p =
      shortest_by_depth table m s t depths step same least_here walk
      (walks_by_notes table m s depths before are_here s t walk (subst (λ k. IsWalk k (IsNoted s depths before) s t walk) size h)) e (omega arith)
