-- Two rules for totals that take each step between the observations alike: what holds by the one holds by the other.
use Rattle.std.proofs.Common.{◌≡◌, ◌<◌, ◌≤◌, inl, inr, ℕ, zero, suc, List, [], ◌∷◌, All, get_or, arith, refl, sym, subst, ◌∙◌, ap}
use Rattle.rp_walk.specs.ExactTotal.{ExactTotal, IsLess, SameTotal}
use Rattle.rp_walk.specs.Walk.{IsTotal, TotalRule, prefix_total, total_after}
use Rattle.rp_walk.specs.LeastTotals.{IsFirstTooWide, IsLeastWithin, IsLive, IsTooWide, NoneTooWide}
use Rattle.rp_walk.specs.RoundWalk.{CameFrom, Carries, IsCutFromRounds, IsFirstLive}
use Rattle.rp_walk.specs.Settled.{IsFirstBreakingPair, NoPairBreaks, PairBreaks}
use Rattle.rp_walk.specs.Outcome.{IsBreakingCycle}
use Rattle.rp_walk.proofs.Walks.{All-cons}
use Rattle.rp_walk.proofs.Cycles.{IsFound-given, found_within}

abbrev pub After : Type 0
After = ExactTotal → ℕ → ℕ → ExactTotal

abbrev pub rule : ℕ → ExactTotal → After → TotalRule
rule n empty after = record { count = n; empty = empty; after = after }

-- they take each step between the n observations alike
abbrev pub Alike : ℕ → After → After → Type 0
Alike n f g = (x : ExactTotal) (t s : ℕ) → t < n → s < n → f x t s ≡ g x t s

alike_back : (n : ℕ) (f g : After) → Alike n f g → Alike n g f
alike_back n f g same x t s ht hs = sym (same x t s ht hs)

-- ---- totals

totals_same : (n : ℕ) (e : ExactTotal) (f g : After) → Alike n f g → (x : ExactTotal) (t : ℕ) (rest : List ℕ) → t < n → All (λ s. s < n) rest → total_after (rule n e f) x t rest ≡ total_after (rule n e g) x t rest
totals_same n e f g same x t [] ht within = refl
totals_same n e f g same x t (s ∷ rest) ht within =
    let hs : s < n = within 0 s (omega arith) in
    totals_same n e f g same (f x t s) s rest hs (λ k d below. within (suc k) d (omega arith))
    ∙ ap (λ (y : ExactTotal). total_after (rule n e g) y s rest) (same x t s ht hs)

pub total_same : (n : ℕ) (e : ExactTotal) (f g : After) → Alike n f g → (k s : ℕ) (x : ExactTotal) → IsTotal (rule n e f) k s x → IsTotal (rule n e g) k s x
total_same n e f g same k s x h = record {
  first = h.first;
  rest = h.rest;
  walk = record { begins_within = h.walk.begins_within; goes_within = h.walk.goes_within };
  steps = h.steps;
  ends = h.ends;
  total = sym (totals_same n e f g same e h.first h.rest h.walk.begins_within h.walk.goes_within) ∙ h.total;
}

prefix_same : (n : ℕ) (e : ExactTotal) (f g : After) → Alike n f g → (p : ℕ → ℕ) (m : ℕ) → ((i : ℕ) → i ≤ m → p i < n) → prefix_total (rule n e f) p m ≡ prefix_total (rule n e g) p m
prefix_same n e f g same p zero within = refl
prefix_same n e f g same p (suc m) within =
    ap (λ (y : ExactTotal). f y (p m) (p (suc m))) (prefix_same n e f g same p m (λ i few. within i (omega arith)))
    ∙ same (prefix_total (rule n e g) p m) (p m) (p (suc m)) (within m (omega arith)) (within (suc m) (omega arith))

-- ---- least totals

pub least_same : (n : ℕ) (e : ExactTotal) (f g : After) → Alike n f g → (k s : ℕ) (x : ExactTotal) → IsLeastWithin (rule n e f) k s x → IsLeastWithin (rule n e g) k s x
least_same n e f g same k s x h = record {
  reached = (h.reached.0, h.reached.1, h.reached.2, total_same n e f g same h.reached.0 s h.reached.1 h.reached.3, h.reached.4);
  lowest = λ j y few total. h.lowest j y few (total_same n e g f (alike_back n f g same) j s y total);
}

pub live_same : (n : ℕ) (e : ExactTotal) (f g : After) → Alike n f g → (k t : ℕ) → IsLive (rule n e f) k t → IsLive (rule n e g) k t
live_same n e f g same k t (inl z) = inl z
live_same n e f g same k t (inr h) = inr (h.0, h.1, least_same n e f g same k t h.0 h.2, least_same n e f g same _ t h.1 h.3, h.4)

pub wide_same : (n : ℕ) (e : ExactTotal) (f g : After) → Alike n f g → (fits : ExactTotal → Type 0) (k t s : ℕ) → IsTooWide (rule n e f) fits k t s → IsTooWide (rule n e g) fits k t s
wide_same n e f g same fits k t s h = record {
  round_within = h.round_within;
  from_within = h.from_within;
  to_within = h.to_within;
  live = live_same n e f g same k t h.live;
  not_fit = (
    h.not_fit.0,
    least_same n e f g same k t h.not_fit.0 h.not_fit.1,
    λ fit. h.not_fit.2 (subst fits (sym (same h.not_fit.0 t s h.from_within h.to_within)) fit),
  );
}

pub none_wide_same : (n : ℕ) (e : ExactTotal) (f g : After) → Alike n f g → (fits : ExactTotal → Type 0) → NoneTooWide (rule n e f) fits → NoneTooWide (rule n e g) fits
none_wide_same n e f g same fits none k t s wide = none k t s (wide_same n e g f (alike_back n f g same) fits k t s wide)

pub first_wide_same : (n : ℕ) (e : ExactTotal) (f g : After) → Alike n f g → (fits : ExactTotal → Type 0) (k t s : ℕ) → IsFirstTooWide (rule n e f) fits k t s → IsFirstTooWide (rule n e g) fits k t s
first_wide_same n e f g same fits k t s h = record {
  too_wide = wide_same n e f g same fits k t s h.too_wide;
  none_before = λ k' t' s' before wide. h.none_before k' t' s' before (wide_same n e g f (alike_back n f g same) fits k' t' s' wide);
}

-- ---- the walk that the rounds give

carries_same : (n : ℕ) (e : ExactTotal) (f g : After) → Alike n f g → (k t s : ℕ) → t < n → s < n → Carries (rule n e f) k t s → Carries (rule n e g) k t s
carries_same n e f g same k t s ht hs h x least =
    subst (λ (y : ExactTotal). IsLeastWithin (rule n e g) (suc k) s y) (same x t s ht hs)
    (least_same n e f g same (suc k) s (f x t s) (h x (least_same n e g f (alike_back n f g same) k t x least)))

came_same : (n : ℕ) (e : ExactTotal) (f g : After) → Alike n f g → (k s t : ℕ) → s < n → CameFrom (rule n e f) k s t → CameFrom (rule n e g) k s t
came_same n e f g same k s t hs h = record {
  within = h.within;
  live = live_same n e f g same k t h.live;
  carries = carries_same n e f g same k t s h.within hs h.carries;
  first = λ t' before live carries.
      h.first t' before (live_same n e g f (alike_back n f g same) k t' live)
      (carries_same n e g f (alike_back n f g same) k t' s (omega (arith, before, h.within)) hs carries);
}

first_live_same : (n : ℕ) (e : ExactTotal) (f g : After) → Alike n f g → (k s : ℕ) → IsFirstLive (rule n e f) k s → IsFirstLive (rule n e g) k s
first_live_same n e f g same k s h = record {
  within = h.within;
  live = live_same n e f g same k s h.live;
  none_before = λ i before live. h.none_before i before (live_same n e g f (alike_back n f g same) k i live);
}

pub cut_same : (n : ℕ) (e : ExactTotal) (f g : After) → Alike n f g → (start : ExactTotal) (cycle : List ℕ) → IsCutFromRounds (rule n e f) start cycle → IsCutFromRounds (rule n e g) start cycle
cut_same n e f g same start cycle h = record {
  walk = h.walk;
  is_given = record {
    one_more = h.is_given.one_more;
    ends = first_live_same n e f g same n (get_or h.walk n 0) h.is_given.ends;
    came = λ m below. came_same n e f g same m (get_or h.walk (suc m) 0) (get_or h.walk m 0) (within (suc m) (omega arith)) (h.is_given.came m below);
  };
  a = h.a;
  b = h.b;
  first_part = h.first_part;
  cycle_is = h.cycle_is;
  start_is = subst (λ (y : ExactTotal). SameTotal y start)
      (prefix_same n e f g same (λ m. get_or h.walk m 0) h.a (λ i few. within i (omega (arith, h.first_part.in_order, h.first_part.in_walk, h.is_given.one_more)))) h.start_is;
}
  where
    within : (m : ℕ) → m ≤ n → get_or h.walk m 0 < n
    within = found_within (rule n e f) n (λ m. get_or h.walk m 0) (IsFound-given (rule n e f) h.walk h.is_given)

-- ---- pairs that break

breaks_same : (n : ℕ) (e : ExactTotal) (f g : After) → Alike n f g → (s t : ℕ) → s < n → t < n → PairBreaks (rule n e f) s t → PairBreaks (rule n e g) s t
breaks_same n e f g same s t hs ht h k x total =
    subst (λ (y : ExactTotal). IsLess y x)
    (totals_same n e f g same x s (t ∷ s ∷ []) hs (All-cons (λ m. m < n) t (s ∷ []) ht (All-cons (λ m. m < n) s [] hs (λ k d below. absurd (omega arith)))))
    (h k x (total_same n e g f (alike_back n f g same) k s x total))

pub no_breaks_same : (n : ℕ) (e : ExactTotal) (f g : After) → Alike n f g → NoPairBreaks (rule n e f) → NoPairBreaks (rule n e g)
no_breaks_same n e f g same none s t order ht breaks =
    none s t order ht (breaks_same n e g f (alike_back n f g same) s t (omega (arith, order, ht)) ht breaks)

pub breaking_cycle_same : (n : ℕ) (e : ExactTotal) (f g : After) → Alike n f g → (start : ExactTotal) (walk : List ℕ) → IsBreakingCycle (rule n e f) start walk → IsBreakingCycle (rule n e g) start walk
breaking_cycle_same n e f g same start walk h = record {
  s = h.s;
  t = h.t;
  first_pair = record {
    in_order = pair.in_order;
    within = pair.within;
    breaks = breaks_same n e f g same h.s h.t (omega (arith, pair.in_order, pair.within)) pair.within pair.breaks;
    none_before = λ i j before order below breaks.
        pair.none_before i j before order below (breaks_same n e g f (alike_back n f g same) i j (omega (arith, order, below)) below breaks);
  };
  start_empty = h.start_empty;
  walk_is = h.walk_is;
}
  where
    pair : IsFirstBreakingPair (rule n e f) h.s h.t
    pair = h.first_pair
