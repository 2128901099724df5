-- Trying one step: it is taken where it makes the total at its end less, and else all stays. Values of any type stand
-- for their exact totals, by a function on places.
use Rattle.std.proofs.Common.{◌≡◌, ℕ, zero, suc, ◌+◌, ◌<◌, ◌≤◌, arith, ◌⊎◌, inl, inr, ap, sym, ◌∙◌, refl, subst, List, [], ◌∷◌, length, get_or, set, get_or-set_same, get_or-set_other, length-set}
use Rattle.std.proofs.lemmas.Bool.{cases_lt}
use Rattle.std.proofs.lemmas.List.{get_or_default}
use Rattle.rp_walk.specs.ExactTotal.{ExactTotal, IsLess, SameTotal}
use Rattle.rp_walk.specs.Walk.{TotalRule}
use Rattle.rp_walk.specs.InnerRounds.{totals_of, IsTried, StepsFit}
use Rattle.rp_walk.proofs.Order.{not_more_less, not_more_trans, not_less-same}

-- a value stands for its exact total
pub totals_of-at : {V : Type 0} (exact : V → ExactTotal) (e : ExactTotal) (vs : List V) (s : ℕ) (d : V) → s < length vs → totals_of exact e vs s ≡ exact (get_or vs s d)
totals_of-at exact e [] s d h = absurd (omega arith)
totals_of-at exact e (v ∷ vs) zero d h = refl
totals_of-at exact e (v ∷ vs) (suc s) d h = totals_of-at exact e vs s d (omega arith)

pub totals_of-set_same : {V : Type 0} (exact : V → ExactTotal) (e : ExactTotal) (vs : List V) (s : ℕ) (v : V) → s < length vs → totals_of exact e (set vs s v) s ≡ exact v
totals_of-set_same exact e [] s v h = absurd (omega arith)
totals_of-set_same exact e (x ∷ vs) zero v h = refl
totals_of-set_same exact e (x ∷ vs) (suc s) v h = totals_of-set_same exact e vs s v (omega arith)

pub totals_of-set_other : {V : Type 0} (exact : V → ExactTotal) (e : ExactTotal) (vs : List V) (t s : ℕ) (v : V) → (s ≡ t → ⊥) → totals_of exact e (set vs t v) s ≡ totals_of exact e vs s
totals_of-set_other exact e [] t s v ne = refl
totals_of-set_other exact e (x ∷ vs) zero zero v ne = absurd (ne refl)
totals_of-set_other exact e (x ∷ vs) zero (suc s) v ne = refl
totals_of-set_other exact e (x ∷ vs) (suc t) zero v ne = refl
totals_of-set_other exact e (x ∷ vs) (suc t) (suc s) v ne = totals_of-set_other exact e vs t s v (λ p. ne (ap suc p))

-- a step that is no less leaves what stood there
pub IsTried-kept : {V : Type 0} (w : TotalRule) (exact : V → ExactTotal) (x : ExactTotal) (t : ℕ) (old : List V) (old_from : List ℕ) (n : ℕ) (new : List V) (new_from : List ℕ) → IsTried w exact x t old old_from n new new_from → ¬ (IsLess (w.after x t n) (totals_of exact w.empty new n)) → IsTried w exact x t old old_from (n + 1) new new_from
IsTried-kept w exact x t old old_from n new new_from h above =
    let here = h.rest n (omega arith) in
    let above_old = subst (λ (y : ExactTotal). ¬ (IsLess (w.after x t n) y)) here.0 above in
    record {
      values_len = h.values_len;
      from_len = h.from_len;
      kept = λ s below above_s. by_cases s below (cases_lt s n) above_s;
      taken = λ s below less. taken s below (cases_lt s n) above_old less;
      rest = λ s from. h.rest s (omega arith);
    }
  where
    by_cases : (s : ℕ) → s < n + 1 → (s < n) ⊎ (n ≤ s) → ¬ (IsLess (w.after x t s) (totals_of exact w.empty old s)) → (totals_of exact w.empty new s ≡ totals_of exact w.empty old s) × (get_or new_from s 0 ≡ get_or old_from s 0)
    by_cases s below (inl b) above_s = h.kept s b above_s
    by_cases s below (inr b) above_s = h.rest s b

    taken : (s : ℕ) → s < n + 1 → (s < n) ⊎ (n ≤ s) → ¬ (IsLess (w.after x t n) (totals_of exact w.empty old n)) → IsLess (w.after x t s) (totals_of exact w.empty old s) → SameTotal (totals_of exact w.empty new s) (w.after x t s) × (get_or new_from s 0 ≡ t)
    taken s below (inl b) above_n less = h.taken s b less
    taken s below (inr b) above_n less =
        let e : s ≡ n = omega arith in
        absurd (above_n (subst (λ m. IsLess (w.after x t m) (totals_of exact w.empty old m)) e less))

-- one that is less is taken
pub IsTried-taken : {V : Type 0} (w : TotalRule) (exact : V → ExactTotal) (x : ExactTotal) (t : ℕ) (old : List V) (old_from : List ℕ) (n : ℕ) (new : List V) (new_from : List ℕ) (v : V) → IsTried w exact x t old old_from n new new_from → n < length new → n < length new_from → SameTotal (exact v) (w.after x t n) → IsLess (w.after x t n) (totals_of exact w.empty new n) → IsTried w exact x t old old_from (n + 1) (set new n v) (set new_from n t)
IsTried-taken w exact x t old old_from n new new_from v h in_values in_from same less =
    let here = h.rest n (omega arith) in
    let less_old = subst (λ (y : ExactTotal). IsLess (w.after x t n) y) here.0 less in
    record {
      values_len = length-set new n v ∙ h.values_len;
      from_len = length-set new_from n t ∙ h.from_len;
      kept = λ s below above_s. kept s below (cases_lt s n) less_old above_s;
      taken = λ s below p. taken s below (cases_lt s n) p;
      rest = λ s from. other s (λ e. absurd (omega arith)) (h.rest s (omega arith));
    }
  where
    other : (s : ℕ) → (s ≡ n → ⊥) → (totals_of exact w.empty new s ≡ totals_of exact w.empty old s) × (get_or new_from s 0 ≡ get_or old_from s 0) → (totals_of exact w.empty (set new n v) s ≡ totals_of exact w.empty old s) × (get_or (set new_from n t) s 0 ≡ get_or old_from s 0)
    other s ne p = (
      totals_of-set_other exact w.empty new n s v ne ∙ p.0,
      get_or-set_other new_from n s t 0 ne ∙ p.1,
    )

    kept : (s : ℕ) → s < n + 1 → (s < n) ⊎ (n ≤ s) → IsLess (w.after x t n) (totals_of exact w.empty old n) → ¬ (IsLess (w.after x t s) (totals_of exact w.empty old s)) → (totals_of exact w.empty (set new n v) s ≡ totals_of exact w.empty old s) × (get_or (set new_from n t) s 0 ≡ get_or old_from s 0)
    kept s below (inl b) p above_s = other s (λ e. absurd (omega arith)) (h.kept s b above_s)
    kept s below (inr b) p above_s =
        let e : n ≡ s = omega arith in
        absurd (above_s (subst (λ m. IsLess (w.after x t m) (totals_of exact w.empty old m)) e p))

    taken : (s : ℕ) → s < n + 1 → (s < n) ⊎ (n ≤ s) → IsLess (w.after x t s) (totals_of exact w.empty old s) → SameTotal (totals_of exact w.empty (set new n v) s) (w.after x t s) × (get_or (set new_from n t) s 0 ≡ t)
    taken s below (inl b) p =
        let ne : s ≡ n → ⊥ = λ e. absurd (omega arith) in
        let q = h.taken s b p in (
          subst (λ (y : ExactTotal). SameTotal y (w.after x t s)) (sym (totals_of-set_other exact w.empty new n s v ne)) q.0,
          get_or-set_other new_from n s t 0 ne ∙ q.1,
        )
    taken s below (inr b) p =
        let e : n ≡ s = omega arith in
        subst (λ m. SameTotal (totals_of exact w.empty (set new n v) m) (w.after x t m) × (get_or (set new_from n t) m 0 ≡ t)) e (
          subst (λ (y : ExactTotal). SameTotal y (w.after x t n)) (sym (totals_of-set_same exact w.empty new n v in_values)) same,
          get_or-set_same new_from n t 0 in_from,
        )

-- the same, of the value that stands there
pub IsTried-idle_at : {V : Type 0} (w : TotalRule) (exact : V → ExactTotal) (x : ExactTotal) (t : ℕ) (old : List V) (old_from : List ℕ) (n : ℕ) (new : List V) (new_from : List ℕ) (here : V) → IsTried w exact x t old old_from n new new_from → n < length new → here ≡ get_or new n here → ¬ (IsLess (w.after x t n) (exact here)) → IsTried w exact x t old old_from (n + 1) new new_from
IsTried-idle_at w exact x t old old_from n new new_from here h below at above =
    let e : totals_of exact w.empty new n ≡ exact here = totals_of-at exact w.empty new n here below ∙ ap exact (sym at) in
    IsTried-kept w exact x t old old_from n new new_from h (subst (λ (y : ExactTotal). ¬ (IsLess (w.after x t n) y)) (sym e) above)

-- and of that and the value that was found
pub IsTried-kept_at : {V : Type 0} (w : TotalRule) (exact : V → ExactTotal) (x : ExactTotal) (t : ℕ) (old : List V) (old_from : List ℕ) (n : ℕ) (new : List V) (new_from : List ℕ) (found here : V) → IsTried w exact x t old old_from n new new_from → n < length new → here ≡ get_or new n here → SameTotal (exact found) (w.after x t n) → ¬ (IsLess (exact found) (exact here)) → IsTried w exact x t old old_from (n + 1) new new_from
IsTried-kept_at w exact x t old old_from n new new_from found here h below at same above =
    IsTried-idle_at w exact x t old old_from n new new_from here h below at
    (not_more_trans (exact here) (exact found) (w.after x t n) above (not_less-same (w.after x t n) (exact found) (sym same)))

pub IsTried-taken_at : {V : Type 0} (w : TotalRule) (exact : V → ExactTotal) (x : ExactTotal) (t : ℕ) (old : List V) (old_from : List ℕ) (n : ℕ) (new : List V) (new_from : List ℕ) (found here : V) → IsTried w exact x t old old_from n new new_from → n < length new → n < length new_from → here ≡ get_or new n here → SameTotal (exact found) (w.after x t n) → IsLess (exact found) (exact here) → IsTried w exact x t old old_from (n + 1) (set new n found) (set new_from n t)
IsTried-taken_at w exact x t old old_from n new new_from found here h below below_from at same less =
    let e : totals_of exact w.empty new n ≡ exact here = totals_of-at exact w.empty new n here below ∙ ap exact (sym at) in
    let p = not_more_less (w.after x t n) (exact found) (exact here) (not_less-same (exact found) (w.after x t n) same) less in
    IsTried-taken w exact x t old old_from n new new_from found h below below_from same (subst (λ (y : ExactTotal). IsLess (w.after x t n) y) (sym e) p)

pub StepsFit-more : (w : TotalRule) (fits : ExactTotal → Type 0) (x : ExactTotal) (t n : ℕ) → StepsFit w fits x t n → ¬ (¬ (fits (w.after x t n))) → StepsFit w fits x t (n + 1)
StepsFit-more w fits x t n h fit s below = by_cases (cases_lt s n)
  where
    by_cases : (s < n) ⊎ (n ≤ s) → ¬ (¬ (fits (w.after x t s)))
    by_cases (inl b) = h s b
    by_cases (inr b) =
        let e : n ≡ s = omega arith in
        subst (λ m. ¬ (¬ (fits (w.after x t m)))) e fit

pub IsTried-none : {V : Type 0} (w : TotalRule) (exact : V → ExactTotal) (x : ExactTotal) (t : ℕ) (old : List V) (old_from : List ℕ) → IsTried w exact x t old old_from 0 old old_from
IsTried-none w exact x t old old_from = record {
  values_len = refl;
  from_len = refl;
  kept = λ s below above. absurd (omega (arith, below));
  taken = λ s below less. absurd (omega (arith, below));
  rest = λ s from. (refl, refl);
}

-- steps that are no less leave what stood there, one after the other
pub IsTried-until : {V : Type 0} (w : TotalRule) (exact : V → ExactTotal) (x : ExactTotal) (t : ℕ) (old : List V) (old_from : List ℕ) (n m : ℕ) (new : List V) (new_from : List ℕ) (d : V) → IsTried w exact x t old old_from n new new_from → n ≤ m → m ≤ length new
    → ((i : ℕ) (b : V) → n ≤ i → i < m → b ≡ get_or new i b → ¬ (IsLess (w.after x t i) (exact b))) → IsTried w exact x t old old_from m new new_from
IsTried-until w exact x t old old_from n m new new_from d h above within idle = record {
  values_len = h.values_len;
  from_len = h.from_len;
  kept = λ s below above_s. kept s (cases_lt s n) above_s;
  taken = λ s below less. taken s below (cases_lt s n) less;
  rest = λ s from. h.rest s (omega (arith, above, from));
}
  where
    kept : (s : ℕ) → (s < n) ⊎ (n ≤ s) → ¬ (IsLess (w.after x t s) (totals_of exact w.empty old s)) → (totals_of exact w.empty new s ≡ totals_of exact w.empty old s) × (get_or new_from s 0 ≡ get_or old_from s 0)
    kept s (inl b) above_s = h.kept s b above_s
    kept s (inr b) above_s = h.rest s b

    taken : (s : ℕ) → s < m → (s < n) ⊎ (n ≤ s) → IsLess (w.after x t s) (totals_of exact w.empty old s) → SameTotal (totals_of exact w.empty new s) (w.after x t s) × (get_or new_from s 0 ≡ t)
    taken s below (inl b) less = h.taken s b less
    taken s below (inr b) less =
        let there : s < length new = omega (arith, below, within) in
        let e : totals_of exact w.empty old s ≡ exact (get_or new s d) = sym (h.rest s b).0 ∙ totals_of-at exact w.empty new s d there in
        absurd (idle s (get_or new s d) b below (get_or_default new s d (get_or new s d) there) (subst (λ (y : ExactTotal). IsLess (w.after x t s) y) e less))

pub StepsFit-until : (w : TotalRule) (fits : ExactTotal → Type 0) (x : ExactTotal) (t n m : ℕ) → StepsFit w fits x t n → ((i : ℕ) → n ≤ i → i < m → fits (w.after x t i)) → StepsFit w fits x t m
StepsFit-until w fits x t n m h fit s below = by_cases (cases_lt s n)
  where
    by_cases : (s < n) ⊎ (n ≤ s) → ¬ (¬ (fits (w.after x t s)))
    by_cases (inl b) = h s b
    by_cases (inr b) = λ no_fit. no_fit (fit s b below)
