-- What the computation keeps from round to round, in one record, and what it has found where it stops: after a round
-- that makes nothing less, at a step that does not fit, or past the last round.
use Rattle.std.proofs.Common.{◌≡◌, ℕ, suc, ◌+◌, ◌*◌, ◌<◌, ◌≤◌, arith, ◌⊎◌, inl, inr, ap, sym, ◌∙◌, refl, subst, List, [], ◌++◌, length, get_or, replicate, length-append}
use Rattle.std.proofs.lemmas.List.{get_or-replicate, length-replicate, get_or_append_left, get_or-append-add}
use Rattle.std.proofs.lemmas.Bool.{cases_lt}
use Rattle.std.proofs.Math.Nat.{mul-le-mul_right}
use Rattle.rp_walk.specs.ExactTotal.{ExactTotal, SameTotal}
use Rattle.rp_walk.specs.Walk.{TotalRule, KeepsOrder}
use Rattle.rp_walk.specs.LeastTotals.{IsLive, IsLeast, IsLeastWithin, NoneTooWide, FitsAlike}
use Rattle.rp_walk.specs.InnerRounds.{Remembers, AreRoundTotals, totals_of}
use Rattle.rp_walk.specs.RoundWalk.{CameFrom, IsFirstLive}
use Rattle.rp_walk.specs.InnerAdvance.{IsNextRound, StopsAt}
use Rattle.rp_walk.specs.Settled.{NoPairBreaks}
use Rattle.rp_walk.specs.Outcome.{SettlesInValues, SettlesInWide}
use Rattle.rp_walk.proofs.Paths.{IsLeastWithin-same}
use Rattle.rp_walk.proofs.Rounds.{AreRoundTotals-next, IsLeastWithin-zero}
use Rattle.rp_walk.proofs.Stops.{NoneBelow, NoneBelow-next, NoneTooWide-stable, NoneTooWide-all, IsFirstTooWide-found, IsLeast-stable, CameFrom-next, idle_not_live}
use Rattle.rp_walk.proofs.Tries.{totals_of-at}

-- what the computation keeps when it comes to round k
pub record IsRun {V : Type 0} (w : TotalRule) (fits : ExactTotal → Type 0) (exact : V → ExactTotal) (k : ℕ) (values : List V) (from history : List ℕ) : Type 0 where
  pub values_len : length values ≡ w.count
  pub from_len : length from ≡ w.count
  pub round : AreRoundTotals w k (totals_of exact w.empty values) (λ s. get_or from s 0)
  pub none_below : NoneBelow w fits k
  pub history_len : length history ≡ k * w.count
  pub remembers : Remembers w k history
  pub idle_fit : (t s : ℕ) → t < w.count → s < w.count → w.count ≤ get_or from t 0 → ¬ (¬ (fits (w.after (totals_of exact w.empty values t) t s)))
  pub improved : 0 < k → (s : ℕ) × (s < w.count) × (get_or from s 0 < w.count)

pub IsRun-start : {V : Type 0} (w : TotalRule) (fits : ExactTotal → Type 0) (exact : V → ExactTotal) (start : V) (n : ℕ) (values : List V) (from history : List ℕ) → n ≡ w.count → SameTotal (exact start) w.empty → values ≡ replicate n start → from ≡ replicate n 0 → history ≡ [] → IsRun w fits exact 0 values from history
IsRun-start {V} w fits exact start n values from history is_n is_start is_values is_from is_history = record {
  values_len = ap length is_values ∙ length-replicate n start ∙ is_n;
  from_len = ap length is_from ∙ length-replicate n 0 ∙ is_n;
  round = record {
    least = λ s hs. subst (λ (x : ExactTotal). IsLeastWithin w 0 s x) (sym (total s hs))
        (IsLeastWithin-same w 0 s w.empty (exact start) (IsLeastWithin-zero w s hs) (sym is_start));
    live = λ s hs h. inl refl;
    idle = λ s hs h. absurd (omega (arith, entry s hs));
  };
  none_below = λ k t s below. absurd (omega arith);
  history_len = ap length is_history ∙ omega arith;
  remembers = λ k s below. absurd (omega arith);
  idle_fit = λ t s ht hs h. absurd (omega (arith, entry t ht));
  improved = λ h. absurd (omega arith);
}
  where
    entry : (s : ℕ) → s < w.count → get_or from s 0 ≡ 0
    entry s hs = ap (λ (xs : List ℕ). get_or xs s 0) is_from ∙ get_or-replicate n s 0 0 (omega arith)

    total : (s : ℕ) → s < w.count → totals_of exact w.empty values s ≡ exact start
    total s hs =
        let inside : s < length values = omega (arith, ap length is_values, length-replicate n start) in
        totals_of-at exact w.empty values s start inside
        ∙ ap (λ (xs : List V). exact (get_or xs s start)) is_values
        ∙ ap exact (get_or-replicate n s start start (omega arith))

Remembers-more : (w : TotalRule) (k : ℕ) (history came : List ℕ) → length history ≡ k * w.count → Remembers w k history → ((s : ℕ) → s < w.count → IsLive w (suc k) s → CameFrom w k s (get_or came s 0)) → Remembers w (suc k) (history ++ came)
Remembers-more w k history came len h here k' s below hs live = by_cases (cases_lt k' k)
  where
    by_cases : (k' < k) ⊎ (k ≤ k') → CameFrom w k' s (get_or (history ++ came) (k' * w.count + s) 0)
    by_cases (inl b) =
        let rows = mul-le-mul_right {m = k' + 1} {n = k} w.count (omega arith) in
        let inside : k' * w.count + s < length history = omega arith in
        subst (λ n. CameFrom w k' s n) (sym (get_or_append_left history came 0 (k' * w.count + s) inside)) (h k' s b hs live)
    by_cases (inr b) =
        let e : k ≡ k' = omega arith in
        let place : k' * w.count + s ≡ length history + s = omega (arith, ap (λ n. n * w.count) e) in
        let entry : get_or (history ++ came) (k' * w.count + s) 0 ≡ get_or came s 0 =
        ap (λ n. get_or (history ++ came) n 0) place ∙ get_or-append-add history came s 0 in
        let live_k : IsLive w (suc k) s = subst (λ n. IsLive w (suc n) s) (sym e) live in
        let at_k = subst (λ n. CameFrom w k s n) (sym entry) (here s hs live_k) in
        subst (λ n. CameFrom w n s (get_or (history ++ came) (k' * w.count + s) 0)) e at_k

-- where the next round makes no total less, each step from it fits
next_fit : {V : Type 0} (w : TotalRule) (fits : ExactTotal → Type 0) (exact : V → ExactTotal) (k : ℕ) (values next : List V) (from came history : List ℕ) → IsRun w fits exact k values from history → IsNextRound w fits exact values from next came → (t s : ℕ) → t < w.count → s < w.count → w.count ≤ get_or came t 0 → ¬ (¬ (fits (w.after (totals_of exact w.empty next t) t s)))
next_fit w fits exact k values next from came history run h t s ht hs idle =
    subst (λ (x : ExactTotal). ¬ (¬ (fits (w.after x t s)))) (sym (h.next.kept t ht idle)) (by_cases (cases_lt (get_or from t 0) w.count))
  where
    by_cases : (get_or from t 0 < w.count) ⊎ (w.count ≤ get_or from t 0) → ¬ (¬ (fits (w.after (totals_of exact w.empty values t) t s)))
    by_cases (inl b) = h.fit t s ht hs b
    by_cases (inr b) = run.idle_fit t s ht hs b

pub IsRun-next : {V : Type 0} (w : TotalRule) (keeps : KeepsOrder w) (fits : ExactTotal → Type 0) (alike : FitsAlike fits) (exact : V → ExactTotal) (k j : ℕ) (values next : List V) (from came history all : List ℕ) → j ≡ suc k → IsRun w fits exact k values from history → IsNextRound w fits exact values from next came → all ≡ history ++ came → (s : ℕ) → s < w.count → get_or came s 0 < w.count → IsRun w fits exact j next came all
IsRun-next w keeps fits alike exact k j values next from came history all is_j run h is_all s hs better =
    subst (λ n. IsRun w fits exact n next came all) (sym is_j) (record {
      values_len = h.values_len;
      from_len = h.from_len;
      round = round;
      none_below = NoneBelow-next w keeps fits alike k (totals_of exact w.empty values) (λ i. get_or from i 0) run.round h.fit run.none_below;
      history_len = ap length is_all ∙ omega (arith, length-append history came, run.history_len, h.from_len);
      remembers = subst (λ (xs : List ℕ). Remembers w (suc k) xs) (sym is_all) (Remembers-more w k history came run.history_len run.remembers came_from);
      idle_fit = λ t i ht hi idle. next_fit w fits exact k values next from came history run h t i ht hi idle;
      improved = λ p. (s, hs, better);
    })
  where
    round : AreRoundTotals w (suc k) (totals_of exact w.empty next) (λ i. get_or came i 0)
    round = AreRoundTotals-next w keeps k (totals_of exact w.empty values) (totals_of exact w.empty next) (λ i. get_or from i 0) (λ i. get_or came i 0) run.round h.next

    came_from : (i : ℕ) → i < w.count → IsLive w (suc k) i → CameFrom w k i (get_or came i 0)
    came_from i hi live = by_cases (cases_lt (get_or came i 0) w.count)
      where
        by_cases : (get_or came i 0 < w.count) ⊎ (w.count ≤ get_or came i 0) → CameFrom w k i (get_or came i 0)
        by_cases (inl b) = CameFrom-next w keeps k (totals_of exact w.empty values) (totals_of exact w.empty next) (λ m. get_or from m 0) (λ m. get_or came m 0) i run.round h.next hi b
        by_cases (inr b) = absurd (idle_not_live w (suc k) (totals_of exact w.empty next) (λ m. get_or came m 0) i round hi b live)

-- a round that makes no total less
pub SettlesInValues-run : {V : Type 0} (w : TotalRule) (keeps : KeepsOrder w) (fits : ExactTotal → Type 0) (alike : FitsAlike fits) (exact : V → ExactTotal) (k n : ℕ) (values next result : List V) (from came history : List ℕ) → n ≡ w.count → IsRun w fits exact k values from history → IsNextRound w fits exact values from next came → ((s : ℕ) → s < n → n ≤ get_or came s 0) → result ≡ next → NoPairBreaks w → SettlesInValues w fits exact result
SettlesInValues-run {V} w keeps fits alike exact k n values next result from came history is_n run h still is_result no_pair =
    subst (λ (xs : List V). SettlesInValues w fits exact xs) (sym is_result) (record {
      no_pair = no_pair;
      none_too_wide = NoneTooWide-stable w keeps fits k (totals_of exact w.empty values) (totals_of exact w.empty next) (λ i. get_or from i 0) (λ i. get_or came i 0) run.round h.next none
          (NoneBelow-next w keeps fits alike k (totals_of exact w.empty values) (λ i. get_or from i 0) run.round h.fit run.none_below);
      one_each = h.values_len;
      steps_fit = λ t s d ht hs. subst (λ (x : ExactTotal). ¬ (¬ (fits (w.after x t s)))) (totals_of-at exact w.empty next t d (omega (arith, h.values_len)))
          (next_fit w fits exact k values next from came history run h t s ht hs (none t ht));
      least = λ s d hs. subst (λ (x : ExactTotal). IsLeast w s x) (totals_of-at exact w.empty next s d (omega (arith, h.values_len)))
          (IsLeast-stable w keeps k (totals_of exact w.empty values) (totals_of exact w.empty next) (λ i. get_or from i 0) (λ i. get_or came i 0) run.round h.next none s hs);
    })
  where
    none : (s : ℕ) → s < w.count → w.count ≤ get_or came s 0
    none s hs = omega (arith, still s (omega arith))

-- a step that does not fit
pub SettlesInWide-run : {V : Type 0} (w : TotalRule) (keeps : KeepsOrder w) (fits : ExactTotal → Type 0) (alike : FitsAlike fits) (exact : V → ExactTotal) (k t s : ℕ) (values : List V) (from history : List ℕ) → k < w.count → IsRun w fits exact k values from history → StopsAt w fits exact values from t s → NoPairBreaks w → SettlesInWide w fits k t s
SettlesInWide-run w keeps fits alike exact k t s values from history hk run h no_pair = record {
  no_pair = no_pair;
  first = IsFirstTooWide-found w keeps fits alike k (totals_of exact w.empty values) (λ i. get_or from i 0) t s run.round run.none_below hk
      h.from_within h.to_within h.live h.fit_before h.fit_to_before h.not_fit;
}

-- past the last round
pub NoneTooWide-run : {V : Type 0} (w : TotalRule) (fits : ExactTotal → Type 0) (exact : V → ExactTotal) (k : ℕ) (values : List V) (from history : List ℕ) → w.count ≤ k → IsRun w fits exact k values from history → NoneTooWide w fits
NoneTooWide-run w fits exact k values from history past run = NoneTooWide-all w fits k past run.none_below

-- the first observation that a round made less
pub IsFirstLive-run : {V : Type 0} (w : TotalRule) (fits : ExactTotal → Type 0) (exact : V → ExactTotal) (k s : ℕ) (values : List V) (from history : List ℕ) → IsRun w fits exact k values from history → s < w.count → get_or from s 0 < w.count → ((i : ℕ) → i < s → w.count ≤ get_or from i 0) → IsFirstLive w k s
IsFirstLive-run w fits exact k s values from history run hs better before = record {
  within = hs;
  live = run.round.live s hs better;
  none_before = λ i i_before. idle_not_live w k (totals_of exact w.empty values) (λ m. get_or from m 0) i run.round (omega arith) (before i i_before);
}
