-- The walk that returns at a level.
use Rattle.std.proofs.Common.{◌≢◌, ◌<◌, ℕ, List, IsTrue, arith}
use Rattle.rp_evidence.specs.Efficiency.{BoundsFromAbove}
use Rattle.rp_evidence.specs.Preference.{IsWeakAt}
use Rattle.rp_evidence.specs.Walk.{IsShortestWalk}
use Rattle.rp_evidence.proofs.Walks.{reach_starts_below}
use Rattle.rp_pref.specs.Closure.{IsClosureOf, Reached, reaches_in}
use Rattle.rp_effic.specs.InnerCycles.{HasCycle}
use Rattle.rp_effic.specs.EfficiencyVerdict.{IsAbove}

module _ (reached : Reached) (n : ℕ) (c : ℕ → ℕ → ℕ) (num den : ℕ) (closed : IsClosureOf reached n (IsWeakAt c num den)) where
  -- where a closed walk exists, some observation returns to itself
  pub some_returns : HasCycle n c num den → ((t : ℕ) → t < n → ¬ IsTrue (reaches_in reached t t)) → ⊥
  some_returns h none =
      let s_in = reach_starts_below n (IsWeakAt c num den) h.1.0 h.1.0 (h.0, h.1.1, h.1.2) in
      none h.1.0 s_in ((closed.exact h.1.0 h.1.0 s_in s_in).1 (h.0, h.1.1, h.1.2))

  -- the shortest return of the first that returns
  pub above_one : (s : ℕ) (walk : List ℕ) → num ≢ den → s < n → ((j : ℕ) → j < s → ¬ IsTrue (reaches_in reached j j)) → IsShortestWalk n (IsWeakAt c num den) s s walk → IsAbove n c num den walk
  above_one s walk apart s_in none shortest = record {
    none_at_one = λ e. absurd (apart e);
    return_below_one = λ e. (
      s,
      record {
        observation = s_in;
        none_earlier = λ j l r. none j l ((closed.exact j j (omega arith) (omega arith)).1 r);
        shortest = shortest;
      },
    );
  }

-- so it bounds from above
pub above_bounds : (n : ℕ) (c : ℕ → ℕ → ℕ) (num den : ℕ) (walk : List ℕ) → IsAbove n c num den walk → BoundsFromAbove n c num den walk
above_bounds n c num den walk h = record {
  none_at_one = h.none_at_one;
  closed_below_one = λ apart. let r = h.return_below_one apart in (r.0, r.1.shortest.leads, r.1.shortest.has_step);
}
