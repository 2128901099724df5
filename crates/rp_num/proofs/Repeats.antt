-- The pigeonhole principle: a list of more numbers below n than n holds one of them twice.
use Rattle.std.proofs.Common.{◌≡◌, ℕ, suc, ◌+◌, ◌<◌, arith, ◌⊎◌, inl, inr, ap, sym, ◌∙◌, List, [], ◌∷◌, length, get_or, All, true, false, eqb}
use Rattle.std.specs.List.{IsDistinct, AllByRecursion, list_any}
use Rattle.std.proofs.lemmas.Bool.Decides.{nat_tests}
use Rattle.std.proofs.lemmas.Bool.{cases_eq}
use Rattle.std.proofs.lemmas.Map.Steps.{length-le_from_distinct_below}

-- x stands in the list, or nowhere in it
stands_or_not : (x : ℕ) (xs : List ℕ) → ((k : ℕ) × (k < length xs) × (get_or xs k 0 ≡ x)) ⊎ AllByRecursion (λ y. eqb x y ≡ false) xs
stands_or_not x [] = inr tt
stands_or_not x (y ∷ ys) = by_cases (cases_eq x y) (stands_or_not x ys)
  where
    by_cases : (x ≡ y) ⊎ (x ≡ y → ⊥) → ((k : ℕ) × (k < length ys) × (get_or ys k 0 ≡ x)) ⊎ AllByRecursion (λ z. eqb x z ≡ false) ys → ((k : ℕ) × (k < length (y ∷ ys)) × (get_or (y ∷ ys) k 0 ≡ x)) ⊎ AllByRecursion (λ z. eqb x z ≡ false) (y ∷ ys)
    by_cases (inl e) rest = inl (0, omega arith, sym e)
    by_cases (inr ne) (inl h) = inl (suc h.0, omega (arith, h.1), h.2)
    by_cases (inr ne) (inr h) = inr (grind (arith, nat_tests), h)

-- two places of the list hold one number
abbrev pub Repeats : List ℕ → Type 0
Repeats xs = (a d : ℕ) × (0 < d) × (a + d < length xs) × (get_or xs a 0 ≡ get_or xs (a + d) 0)

repeats_or_distinct : (xs : List ℕ) → Repeats xs ⊎ IsDistinct eqb xs
unfolding IsDistinct
repeats_or_distinct [] = inr tt
repeats_or_distinct (x ∷ xs) = by_cases (stands_or_not x xs) (repeats_or_distinct xs)
  where
    by_cases : ((k : ℕ) × (k < length xs) × (get_or xs k 0 ≡ x)) ⊎ AllByRecursion (λ y. eqb x y ≡ false) xs → Repeats xs ⊎ IsDistinct eqb xs → Repeats (x ∷ xs) ⊎ IsDistinct eqb (x ∷ xs)
    by_cases (inl h) rest = inl (0, suc h.0, omega arith, omega (arith, h.1), place h.0 h.2)
      where
        place : (k : ℕ) → get_or xs k 0 ≡ x → x ≡ get_or (x ∷ xs) (0 + suc k) 0
        place k e =
            let n : suc k ≡ 0 + suc k = omega arith in
            sym e ∙ ap (λ m. get_or (x ∷ xs) m 0) n
    by_cases (inr h) (inl r) = inl (suc r.0, r.1, r.2, omega (arith, r.3), place r.0 r.1 r.4)
      where
        place : (a d : ℕ) → get_or xs a 0 ≡ get_or xs (a + d) 0 → get_or xs a 0 ≡ get_or (x ∷ xs) (suc a + d) 0
        place a d e =
            let n : suc (a + d) ≡ suc a + d = omega arith in
            e ∙ ap (λ m. get_or (x ∷ xs) m 0) n
    by_cases (inr h) (inr r) = inr (h, r)

stands_within : (n q : ℕ) (xs : List ℕ) → list_any (eqb q) xs ≡ true → All (λ x. x < n) xs → q < n
stands_within n q [] h within = absurd cc
stands_within n q (x ∷ xs) h within =
    by_cases (cases_eq q x) (λ rest. stands_within n q xs rest (λ k d below. within (suc k) d (omega arith)))
  where
    by_cases : (q ≡ x) ⊎ (q ≡ x → ⊥) → (list_any (eqb q) xs ≡ true → q < n) → q < n
    by_cases (inl e) further =
        let below : x < n = within 0 x (omega arith) in
        omega arith
    by_cases (inr ne) further =
        let test : eqb q x ≡ false = grind (arith, nat_tests) in
        further (rw test at h)

-- more numbers below n than n are not all different (the pigeonhole principle)
pub repeats : (n : ℕ) (xs : List ℕ) → All (λ x. x < n) xs → n < length xs → Repeats xs
repeats n xs within long = by_cases (repeats_or_distinct xs)
  where
    by_cases : Repeats xs ⊎ IsDistinct eqb xs → Repeats xs
    by_cases (inl r) = r
    by_cases (inr h) =
        let few = length-le_from_distinct_below xs n h (λ q s. stands_within n q xs s within) in
        absurd (omega arith)
