-- What a closure counts.
use Rattle.std.proofs.Common.{◌≡◌, ◌<◌, ◌+◌, ◌⊎◌, ◌||◌, inl, inr, ℕ, Bool, true, false, cond, eqb, refl, sym, ap, subst, ◌∙◌, arith, count_by}
use Rattle.std.specs.List.{range_with_len}
use Rattle.std.proofs.lemmas.Bool.{eq-eqb, eqb-true}
use Rattle.std.proofs.lemmas.List.{map-id}
use Rattle.std.proofs.lemmas.List.FromFn.{sum_by-map-range_with_len_more}
use Rattle.rp_evidence.specs.Count.{IsCount, IsNumberOf}
use Rattle.rp_evidence.specs.Walk.{Reaches}
use Rattle.rp_evidence.proofs.CountLists.{number_by_test, number_same}
use Rattle.rp_pref.specs.Closure.{EqualsOrReachesIn, IsClosureOf, IsCountIn, Reached, reaches_in}

pub count_more : (p : ℕ → Bool) (m : ℕ) → count_by p (range_with_len 0 (m + 1)) ≡ count_by p (range_with_len 0 m) + cond (p m) 1 0
count_more p m =
    ap (count_by p) (sym (map-id (range_with_len 0 (m + 1)))) ∙ (sum_by-map-range_with_len_more (λ x. cond (p x) 1 0) (λ x. x) 0 m m (omega arith)
    ∙ ap (λ xs. count_by p xs + cond (p m) 1 0) (map-id (range_with_len 0 m)))

-- The test of what equals or is reached.
abbrev pub equals_or_reaches_in : Reached → ℕ → ℕ → Bool
equals_or_reaches_in reached s t = eqb t s || reaches_in reached s t

pub counted : (reached : Reached) (s : ℕ) → IsCountIn reached s (count_by (equals_or_reaches_in reached s) (range_with_len 0 reached.n))
counted reached s = number_by_test reached.n (EqualsOrReachesIn reached s) (equals_or_reaches_in reached s) (λ t l. (there t (eqb t s) refl, back t))
  where
    there : (t : ℕ) (b : Bool) → eqb t s ≡ b → (b || reaches_in reached s t) ≡ true → EqualsOrReachesIn reached s t
    there t true e h = inl (sym (eqb-true t s e))
    there t false e h = inr h

    back : (t : ℕ) → EqualsOrReachesIn reached s t → equals_or_reaches_in reached s t ≡ true
    back t (inl e) = ap (λ b. b || reaches_in reached s t) (eq-eqb t s (sym e))
    back t (inr h) = or_true (eqb t s) (reaches_in reached s t) h
      where
        or_true : (a b : Bool) → b ≡ true → (a || b) ≡ true
        or_true true b e = refl
        or_true false b e = e

-- what a closure counts is the count
pub count_by_closure : (reached : Reached) (n : ℕ) (step : ℕ → ℕ → Type 0) (s k : ℕ) → IsClosureOf reached n step → s < n → IsCountIn reached s k → IsCount n step s k
count_by_closure reached n step s k is below number =
    number_same n (EqualsOrReachesIn reached s) (λ t. (t ≡ s) ⊎ Reaches n step s t) k (λ t l. (there t l, back t l))
    (subst (λ m. IsNumberOf m (EqualsOrReachesIn reached s) k) is.size number)
  where
    there : (t : ℕ) → t < n → EqualsOrReachesIn reached s t → (t ≡ s) ⊎ Reaches n step s t
    there t l (inl e) = inl (sym e)
    there t l (inr h) = inr ((is.exact s t below l).0 h)

    back : (t : ℕ) → t < n → (t ≡ s) ⊎ Reaches n step s t → EqualsOrReachesIn reached s t
    back t l (inl e) = inl (sym e)
    back t l (inr r) = inr ((is.exact s t below l).1 r)
