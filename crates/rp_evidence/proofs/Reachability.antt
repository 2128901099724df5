-- Which observations reach which can be decided where the steps can, so each observation has a count.
use Rattle.std.proofs.Common.{◌≡◌, ◌<◌, ◌≤◌, ◌⊎◌, inl, inr, ℕ, zero, suc, Bool, true, false, List, [], ◌∷◌, refl, subst, arith, count_by}
use Rattle.std.specs.List.{range_with_len}
use Rattle.std.proofs.lemmas.Bool.{cases_eq, false≢true}
use Rattle.std.proofs.lemmas.List.FromFn.{length-range_with_len}
use Rattle.std.proofs.lemmas.List.Sums.{count_by-le-length}
use Rattle.rp_evidence.specs.Count.{IsCount}
use Rattle.rp_evidence.specs.Walk.{LeadsTo, Reaches}
use Rattle.rp_evidence.proofs.CountLists.{number_by_test}
use Rattle.rp_evidence.proofs.Walks.{reach_by_step, reach_on, rest_of_reach, starts_below}

-- s leads to t by walks through observations below j alone (after Warshall)
abbrev Through : (ℕ → ℕ → Type 0) → ℕ → ℕ → ℕ → Type 0
Through step zero s t = step s t
Through step (suc j) s t = Through step j s t ⊎ (Through step j s j × Through step j j t)

module _ (step : ℕ → ℕ → Type 0) where
  step_through : (j s t : ℕ) → step s t → Through step j s t
  step_through zero s t h = h
  step_through (suc j) s t h = inl (step_through j s t h)

  -- walks through observations below j can be joined at one of them
  to_last : (j s : ℕ) → Through step (suc j) s j → Through step j s j
  to_last j s (inl h) = h
  to_last j s (inr h) = h.0

  from_last : (j t : ℕ) → Through step (suc j) j t → Through step j j t
  from_last j t (inl h) = h
  from_last j t (inr h) = h.1

  join : (j s x t : ℕ) → x < j → Through step j s x → Through step j x t → Through step j s t
  join zero s x t l h k = absurd (omega arith)
  join (suc j) s x t l h k =
      elim (cases_eq x j) [
        | inl e ↦ inr (to_last j s (subst (λ z. Through step (suc j) s z) e h), from_last j t (subst (λ z. Through step (suc j) z t) e k))
        | inr d ↦ by_parts (λ a b. join j s x t (omega arith) a b) (λ a b. join j s x j (omega arith) a b) (λ a b. join j j x t (omega arith) a b) h k
      ]
    where
      by_parts : (Through step j s x → Through step j x t → Through step j s t) → (Through step j s x → Through step j x j → Through step j s j) → (Through step j j x → Through step j x t → Through step j j t) → Through step (suc j) s x → Through step (suc j) x t → Through step (suc j) s t
      by_parts f g k (inl a) (inl b) = inl (f a b)
      by_parts f g k (inl a) (inr b) = inr (g a b.0, b.1)
      by_parts f g k (inr a) (inl b) = inr (a.0, k a.1 b)
      by_parts f g k (inr a) (inr b) = inr (a.0, b.1)

  through_all : (n s t x : ℕ) (w : List ℕ) → LeadsTo n step s t (x ∷ w) → Through step n s t
  through_all n s t x [] h = subst (λ z. Through step n s z) h.2.1 (step_through n s x h.1)
  through_all n s t x (y ∷ w) h =
      join n s x t (starts_below n step x t (y ∷ w) h.2) (step_through n s x h.1) (through_all n x t y w h.2)

  through_reaches : (n j s t : ℕ) → j ≤ n → s < n → t < n → Through step j s t → Reaches n step s t
  through_reaches n zero s t l a b h = reach_by_step n step s t a b h
  through_reaches n (suc j) s t l a b (inl h) = through_reaches n j s t (omega arith) a b h
  through_reaches n (suc j) s t l a b (inr h) =
      reach_on n step s j t (through_reaches n j s j (omega arith) a (omega arith) h.0) (through_reaches n j j t (omega arith) (omega arith) b h.1)

module _ (n : ℕ) (step : ℕ → ℕ → Type 0) (decide : (s t : ℕ) → step s t ⊎ ¬ step s t) where
  through_or_not : (j s t : ℕ) → Through step j s t ⊎ ¬ Through step j s t
  through_or_not zero s t = decide s t
  through_or_not (suc j) s t = either (through_or_not j s t) (both (through_or_not j s j) (through_or_not j j t))
    where
      both : {A B : Type 0} → A ⊎ ¬ A → B ⊎ ¬ B → (A × B) ⊎ ¬ (A × B)
      both (inl a) (inl b) = inl (a, b)
      both (inl a) (inr b) = inr (λ p. b p.1)
      both (inr a) d = inr (λ p. a p.0)

      either : {A B : Type 0} → A ⊎ ¬ A → B ⊎ ¬ B → (A ⊎ B) ⊎ ¬ (A ⊎ B)
      either (inl a) d = inl (inl a)
      either (inr a) (inl b) = inl (inr b)
      either (inr a) (inr b) = inr (λ c. elim c [ inl x ↦ a x | inr y ↦ b y ])

  -- whether s is t or reaches it
  counts : ℕ → ℕ → Bool
  counts s t = elim (cases_eq t s) [ inl e ↦ true | inr d ↦ elim (through_or_not n s t) [ inl h ↦ true | inr h ↦ false ] ]

  counts_tells : (s t : ℕ) → s < n → t < n → (counts s t ≡ true → (t ≡ s) ⊎ Reaches n step s t) × ((t ≡ s) ⊎ Reaches n step s t → counts s t ≡ true)
  unfolding counts
  counts_tells s t a b = (there (cases_eq t s) (through_or_not n s t), back (cases_eq t s) (through_or_not n s t))
    where
      there : (e : (t ≡ s) ⊎ ¬ (t ≡ s)) (d : Through step n s t ⊎ ¬ Through step n s t) → elim e [ inl e ↦ true | inr d' ↦ elim d [ inl h ↦ true | inr h ↦ false ] ] ≡ true → (t ≡ s) ⊎ Reaches n step s t
      there (inl e) d h = inl e
      there (inr e) (inl k) h = inr (through_reaches step n n s t (omega arith) a b k)
      there (inr e) (inr k) h = absurd (false≢true h)

      back : (e : (t ≡ s) ⊎ ¬ (t ≡ s)) (d : Through step n s t ⊎ ¬ Through step n s t) → (t ≡ s) ⊎ Reaches n step s t → elim e [ inl e ↦ true | inr d' ↦ elim d [ inl h ↦ true | inr h ↦ false ] ] ≡ true
      back (inl e) d h = refl
      back (inr e) (inl k) h = refl
      back (inr e) (inr k) (inl h) = absurd (e h)
      back (inr e) (inr k) (inr h) = let r = rest_of_reach n step s t h in absurd (k (through_all step n s t r.0 r.1 r.2))

  pub count_of : ℕ → ℕ
  count_of s = count_by (counts s) (range_with_len 0 n)

  pub count_of-counts : (s : ℕ) → s < n → IsCount n step s (count_of s)
  unfolding count_of
  count_of-counts s a = number_by_test n (λ t. (t ≡ s) ⊎ Reaches n step s t) (counts s) (λ t b. counts_tells s t a b)

  pub count_of-within : (s : ℕ) → count_of s ≤ n
  unfolding count_of
  count_of-within s = omega (arith, count_by-le-length (counts s) (range_with_len 0 n), length-range_with_len 0 n)
