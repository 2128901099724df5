-- Products along walks are the same for all costs that are the same between the observations.
use Rattle.std.proofs.Common.{◌≡◌, ◌*◌, ◌≤◌, ℕ, List, [], ◌∷◌, refl}
use Rattle.rp_num.specs.Fraction.{Fraction, PassesWidth}
use Rattle.rp_evidence.specs.Preference.{AgreeBelow}
use Rattle.rp_evidence.specs.Homothetic.{EndsBelow, IsFallingCycle, IsLeastProduct, MeetsHomotheticTest, ProductsFit, ProvesHomothetic, StepsFitFrom, next_product, spent_product, product_from, value_at}
use Rattle.rp_evidence.specs.Walk.{AnyStep, IsClosedWalk, IsWalk, LeadsTo}
use Rattle.rp_evidence.specs.declared.homothetic.Homothetic.{Homothetic}
use Rattle.rp_evidence.specs.declared.homothetic.Homothetic.TheVariants.{Values, Cycle, Withheld}
use Rattle.rp_evidence.proofs.Walks.{starts_below}

product_from_same : (n : ℕ) (f g : ℕ → ℕ → ℕ) → AgreeBelow n f g → (t e : ℕ) (rest : List ℕ) → LeadsTo n AnyStep t e rest → product_from f t rest ≡ product_from g t rest
product_from_same n f g same t e [] leads = refl
product_from_same n f g same t e (s ∷ rest) leads =
    let step = same t s leads.0 (starts_below n AnyStep s e rest leads.2) in
    let further = product_from_same n f g same s e rest leads.2 in
    λ i. step i * further i

pub next_product_same : (n : ℕ) (c d : ℕ → ℕ → ℕ) → AgreeBelow n c d → (s t : ℕ) (walk : List ℕ) → IsWalk n AnyStep s t walk → next_product c walk ≡ next_product d walk
next_product_same n c d same s t [] leads = refl
next_product_same n c d same s t (x ∷ rest) leads = product_from_same n c d same x t rest leads.1

pub spent_product_same : (n : ℕ) (c d : ℕ → ℕ → ℕ) → AgreeBelow n c d → (s t : ℕ) (walk : List ℕ) → IsWalk n AnyStep s t walk → spent_product c walk ≡ spent_product d walk
spent_product_same n c d same s t [] leads = refl
spent_product_same n c d same s t (x ∷ rest) leads =
    product_from_same n (λ i j. c i i) (λ i j. d i i) (λ i j i_in j_in. same i i i_in i_in) x t rest leads.1

pub falling_same : (n : ℕ) (c d : ℕ → ℕ → ℕ) → AgreeBelow n c d → (walk : List ℕ) → IsFallingCycle n c walk → IsFallingCycle n d walk
falling_same n c d same walk cycle = record {
  closed = cycle.closed;
  falls = rw (← next_product_same n c d same cycle.closed.0 cycle.closed.0 walk cycle.closed.1, ← spent_product_same n c d same cycle.closed.0 cycle.closed.0 walk cycle.closed.1) cycle.falls;
}

pub meets_homothetic_same : (n : ℕ) (c d : ℕ → ℕ → ℕ) → AgreeBelow n c d → MeetsHomotheticTest n c → MeetsHomotheticTest n d
meets_homothetic_same n c d same meets walk closed =
    rw (← next_product_same n c d same closed.0 closed.0 walk closed.1, ← spent_product_same n c d same closed.0 closed.0 walk closed.1) (meets walk closed)

pub least_product_same : (n : ℕ) (c d : ℕ → ℕ → ℕ) → AgreeBelow n c d → (s : ℕ) (x : Fraction) → IsLeastProduct n c s x → IsLeastProduct n d s x
least_product_same n c d same s x least =
    let there = least.reached in
    record {
      lowest_terms = least.lowest_terms;
      reached = (
        there.0,
        there.1,
        there.2,
        rw (← next_product_same n c d same there.0 s there.1 there.2, ← spent_product_same n c d same there.0 s there.1 there.2) there.3,
      );
      lowest = λ t walk leads.
          rw (← next_product_same n c d same t s walk leads, ← spent_product_same n c d same t s walk leads) (least.lowest t walk leads);
    }

pub ends_below_same : (n : ℕ) (c d : ℕ → ℕ → ℕ) → AgreeBelow n c d → (start : Fraction) (walk : List ℕ) → IsClosedWalk n AnyStep walk → EndsBelow c start walk → EndsBelow d start walk
ends_below_same n c d same start walk closed below =
    rw (← next_product_same n c d same closed.0 closed.0 walk closed.1, ← spent_product_same n c d same closed.0 closed.0 walk closed.1) below

steps_fit_same : (n : ℕ) (c d : ℕ → ℕ → ℕ) → AgreeBelow n c d → (num den t e : ℕ) (rest : List ℕ) → LeadsTo n AnyStep t e rest → StepsFitFrom c num den t rest → StepsFitFrom d num den t rest
steps_fit_same n c d same num den t e [] leads fit = tt
steps_fit_same n c d same num den t e (s ∷ rest) leads fit =
    moved (c t s) (c t t) (d t s) (d t t) (same t s leads.0 (starts_below n AnyStep s e rest leads.2)) (same t t leads.0 leads.0) fit.0
    (steps_fit_same n c d same (num * c t s) (den * c t t) s e rest leads.2 fit.1)
  where
    moved : (a b a' b' : ℕ) → a ≡ a' → b ≡ b' → ¬ (PassesWidth (num * a) (den * b)) → StepsFitFrom d (num * a) (den * b) s rest
        → (¬ (PassesWidth (num * a') (den * b'))) × StepsFitFrom d (num * a') (den * b') s rest
    moved a b a' b' ea eb h further = rw (← ea, ← eb) (h, further)

pub products_fit_same : (n : ℕ) (c d : ℕ → ℕ → ℕ) → AgreeBelow n c d → (start : Fraction) (walk : List ℕ) → IsClosedWalk n AnyStep walk → ProductsFit c start walk → ProductsFit d start walk
products_fit_same n c d same start [] closed fit = tt
products_fit_same n c d same start (x ∷ rest) closed fit = steps_fit_same n c d same start.num start.den x closed.0 rest closed.1.1 fit

pub homothetic_same : (n : ℕ) (c d : ℕ → ℕ → ℕ) (verdict : Homothetic) → AgreeBelow n c d → ProvesHomothetic n c verdict → ProvesHomothetic n d verdict
homothetic_same n c d (Values values) same p = (
  record {
    one_each = p.0.one_each;
    positive = p.0.positive;
    each = λ t s t_in s_in. moved (value_at values t) (value_at values s) (c t t) (c t s) (d t t) (d t s) (same t t t_in t_in) (same t s t_in s_in) (p.0.each t s t_in s_in);
  },
  meets_homothetic_same n c d same p.1,
)
  where
    moved : (v x : Fraction) (a b a' b' : ℕ) → a ≡ a' → b ≡ b' → x.num * (v.den * a) ≤ (v.num * b) * x.den → x.num * (v.den * a') ≤ (v.num * b') * x.den
    moved v x a b a' b' ea eb h = rw (← ea, ← eb) h
homothetic_same n c d (Cycle start walk) same p = falling_same n c d same walk p
homothetic_same n c d (Withheld steps from to) same p = tt
