-- Sums along walks are the same for all costs that are the same between the observations.
use Rattle.std.proofs.Common.{◌≡◌, ◌<◌, ℕ, ℤ, pos, ◌<ℤ◌, ◌≤ℤ◌, List, [], ◌∷◌, refl, sym, subst, ◌∙◌}
use Rattle.rp_evidence.specs.Preference.{AgreeBelow}
use Rattle.rp_evidence.specs.Quasilinear.{step_sum, sum_from, walk_sum, IsNegativeCycle, MeetsQuasilinearTest, IsLeastSum, ProvesQuasilinear}
use Rattle.rp_evidence.specs.Walk.{AnyStep, LeadsTo, IsWalk}
use Rattle.rp_evidence.specs.declared.quasilinear.Quasi.{Quasi}
use Rattle.rp_evidence.specs.declared.quasilinear.Quasi.TheVariants.{Values, Cycle}
use Rattle.rp_evidence.proofs.SameCosts.{agree_back}
use Rattle.rp_evidence.proofs.Walks.{starts_below}

pub step_sum_same : (n : ℕ) (c d : ℕ → ℕ → ℕ) → AgreeBelow n c d → (t s : ℕ) → t < n → s < n → step_sum c t s ≡ step_sum d t s
step_sum_same n c d same t s t_in s_in = rw (same t s t_in s_in, same t t t_in t_in) refl

sum_from_same : (n : ℕ) (c d : ℕ → ℕ → ℕ) → AgreeBelow n c d → (t e : ℕ) (rest : List ℕ) → LeadsTo n AnyStep t e rest → sum_from c t rest ≡ sum_from d t rest
sum_from_same n c d same t e [] leads = refl
sum_from_same n c d same t e (s ∷ rest) leads =
    rw (step_sum_same n c d same t s leads.0 (starts_below n AnyStep s e rest leads.2), sum_from_same n c d same s e rest leads.2) refl

pub walk_sum_same : (n : ℕ) (c d : ℕ → ℕ → ℕ) → AgreeBelow n c d → (s t : ℕ) (walk : List ℕ) → IsWalk n AnyStep s t walk → walk_sum c walk ≡ walk_sum d walk
walk_sum_same n c d same s t [] leads = refl
walk_sum_same n c d same s t (x ∷ rest) leads = sum_from_same n c d same x t rest leads.1

pub negative_same : (n : ℕ) (c d : ℕ → ℕ → ℕ) → AgreeBelow n c d → (walk : List ℕ) → IsNegativeCycle n c walk → IsNegativeCycle n d walk
negative_same n c d same walk cycle = record {
  closed = cycle.closed;
  negative = subst (λ z. z <ℤ pos 0) (walk_sum_same n c d same cycle.closed.0 cycle.closed.0 walk cycle.closed.1) cycle.negative;
}

pub meets_test_same : (n : ℕ) (c d : ℕ → ℕ → ℕ) → AgreeBelow n c d → MeetsQuasilinearTest n c → MeetsQuasilinearTest n d
meets_test_same n c d same meets walk cycle = meets walk (negative_same n d c (agree_back n c d same) walk cycle)

pub least_sum_same : (n : ℕ) (c d : ℕ → ℕ → ℕ) → AgreeBelow n c d → (s : ℕ) (x : ℤ) → IsLeastSum n c s x → IsLeastSum n d s x
least_sum_same n c d same s x least =
    let there = least.reached in
    record {
      reached = (there.0, there.1, there.2, sym (walk_sum_same n c d same there.0 s there.1 there.2) ∙ there.3);
      lowest = λ t walk leads. subst (λ z. x ≤ℤ z) (walk_sum_same n c d same t s walk leads) (least.lowest t walk leads);
    }

pub quasilinear_same : (n : ℕ) (c d : ℕ → ℕ → ℕ) (verdict : Quasi) → AgreeBelow n c d → ProvesQuasilinear n c verdict → ProvesQuasilinear n d verdict
quasilinear_same n c d (Values values) same p = (
  record {
    one_each = p.0.one_each;
    each = λ t s t_in s_in. rw (← step_sum_same n c d same t s t_in s_in) (p.0.each t s t_in s_in);
  },
  meets_test_same n c d same p.1,
)
quasilinear_same n c d (Cycle walk) same p = negative_same n c d same walk p
