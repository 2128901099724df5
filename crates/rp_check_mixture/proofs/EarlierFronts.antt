-- The order in which a search comes to fronts: a front before those that begin with it, and of others the one with the
-- lesser patch where they first differ.
use Rattle.std.proofs.Common.{◌≡◌, ◌≢◌, ◌<◌, ◌≤◌, ◌⊎◌, ◌+◌, ◌-◌, ◌++◌, inl, inr, ℕ, zero, suc, List, [], ◌∷◌, length, length-append, slice_index, get_or, refl, sym, ap, subst, ◌∙◌, arith}
use Rattle.std.proofs.lemmas.List.{get_or-append_right}
use Rattle.rp_table.specs.Sums.{sum_below}
use Rattle.rp_patch.specs.Kinds.{cells_weight}
use Rattle.rp_patch.specs.PartialTypes.{Before, Begins, IsRationalBelow}
use Rattle.rp_patch.specs.Patches.{PatchList, budget_at}
use Rattle.rp_patch.proofs.SearchLaws.{begins_at, begins_length, rational_begun}
use Rattle.rp_check_mixture.specs.InnerSearch.{AreLeastToCome, Earlier, first_weigh}
use Rattle.rp_check_mixture.specs.LightFronts.{IsLightFront}

compare : (j i : ℕ) → (j < i) ⊎ ((j ≡ i) ⊎ (i < j))
compare zero zero = inr (inl refl)
compare zero (suc i) = inl (omega arith)
compare (suc j) zero = inr (inr (omega arith))
compare (suc j) (suc i) = elim (compare j i) [
  | inl l ↦ inl (omega (arith, l))
  | inr r ↦ elim r [ inl e ↦ inr (inl (ap suc e)) | inr l ↦ inr (inr (omega (arith, l))) ]
]

less_or_same : (j i : ℕ) → j < i + 1 → (j < i) ⊎ (j ≡ i)
less_or_same j i l = elim (compare j i) [ inl a ↦ inl a | inr r ↦ elim r [ inl e ↦ inr e | inr m ↦ absurd (omega (arith, l, m)) ] ]

-- ---- what patches weigh

sum_same : (f g : ℕ → ℕ) (n : ℕ) → ((j : ℕ) → j < n → f j ≡ g j) → sum_below n f ≡ sum_below n g
sum_same f g zero same = refl
sum_same f g (suc n) same = omega (arith, sum_same f g n (λ j l. same j (omega (arith, l))), same n (omega arith))

-- the patches that a type begins with weigh what its first patches do
pub as_heavy : (weights type front : List ℕ) → Begins type front → cells_weight weights front ≡ first_weigh weights type (length front)
as_heavy weights type front begins =
    let g : ℕ → ℕ = λ j. slice_index weights (slice_index type j) in
    let f : ℕ → ℕ = λ j. slice_index weights (slice_index front j) in
    sum_same f g (length front) (λ j l. ap (λ i. slice_index weights i) (sym (begins_at type front begins j l)))

pub last_digit : (xs : List ℕ) (i n : ℕ) → length xs ≡ n → slice_index (xs ++ i ∷ []) n ≡ i
last_digit xs i n count =
    get_or-append_right xs (i ∷ []) n n 0 count (omega arith) ∙ (let none : n - n ≡ 0 = omega arith in ap (λ k. get_or (i ∷ []) k 0) none)

-- ---- from turn to turn

pub none_earlier : (front : List ℕ) → Earlier front (0 ∷ []) → length front ≡ 0
none_earlier [] h = refl
none_earlier (y ∷ front) h = elim h [ inl l ↦ absurd (omega (arith, l)) | inr e ↦ absurd e.1 ]

-- a patch is passed
pub earlier_next : (front xs : List ℕ) (i : ℕ) → Earlier front (xs ++ (i + 1) ∷ []) → Earlier front (xs ++ i ∷ []) ⊎ Begins front (xs ++ i ∷ [])
earlier_next [] [] i h = inl tt
earlier_next (y ∷ front) [] i h = elim h [
  | inl l ↦ elim (less_or_same y i l) [ inl a ↦ inl (inl a) | inr e ↦ inr (e, tt) ]
  | inr e ↦ absurd e.1
]
earlier_next [] (x ∷ xs) i h = inl tt
earlier_next (y ∷ front) (x ∷ xs) i h = by h (earlier_next front xs i)
  where
    by : (y < x) ⊎ ((y ≡ x) × Earlier front (xs ++ (i + 1) ∷ [])) → (Earlier front (xs ++ (i + 1) ∷ []) → Earlier front (xs ++ i ∷ []) ⊎ Begins front (xs ++ i ∷ []))
        → Earlier (y ∷ front) ((x ∷ xs) ++ i ∷ []) ⊎ Begins (y ∷ front) ((x ∷ xs) ++ i ∷ [])
    by (inl l) later = inl (inl l)
    by (inr (e, rest)) later = elim (later rest) [ inl a ↦ inl (inr (e, a)) | inr b ↦ inr (e, b) ]

-- a patch is taken
pub earlier_deeper : (front xs : List ℕ) → Earlier front (xs ++ 0 ∷ []) → Earlier front xs ⊎ (front ≡ xs)
earlier_deeper [] [] h = inr refl
earlier_deeper (y ∷ front) [] h = elim h [ inl l ↦ absurd (omega (arith, l)) | inr e ↦ absurd e.1 ]
earlier_deeper [] (x ∷ xs) h = inl tt
earlier_deeper (y ∷ front) (x ∷ xs) h = by h (earlier_deeper front xs)
  where
    by : (y < x) ⊎ ((y ≡ x) × Earlier front (xs ++ 0 ∷ [])) → (Earlier front (xs ++ 0 ∷ []) → Earlier front xs ⊎ (front ≡ xs)) → Earlier (y ∷ front) (x ∷ xs) ⊎ (y ∷ front ≡ x ∷ xs)
    by (inl l) later = inl (inl l)
    by (inr (e, rest)) later = elim (later rest) [ inl a ↦ inl (inr (e, a)) | inr s ↦ inr (λ k. e k ∷ s k) ]

-- no patch is left
pub earlier_last : (front xs : List ℕ) (i : ℕ) → ((j : ℕ) → j < length front → slice_index front j < i) → (Earlier front xs ⊎ Begins front xs) → Earlier front (xs ++ i ∷ [])
earlier_last [] [] i small h = tt
earlier_last (y ∷ front) [] i small h = inl (small 0 (omega arith))
earlier_last [] (x ∷ xs) i small h = tt
earlier_last (y ∷ front) (x ∷ xs) i small h = by h (earlier_last front xs i (λ j l. small (suc j) (omega (arith, l))))
  where
    by : Earlier (y ∷ front) (x ∷ xs) ⊎ Begins (y ∷ front) (x ∷ xs) → (Earlier front xs ⊎ Begins front xs → Earlier front (xs ++ i ∷ [])) → Earlier (y ∷ front) ((x ∷ xs) ++ i ∷ [])
    by (inl (inl l)) later = inl l
    by (inl (inr (e, rest))) later = inr (e, later (inl rest))
    by (inr (e, rest)) later = inr (e, later (inr rest))

-- a front comes before a type, or begins with it, or the type comes before the front
pub three_ways : (front type : List ℕ) → Earlier front type ⊎ (Begins front type ⊎ Before type front)
three_ways front [] = inr (inl tt)
three_ways [] (x ∷ type) = inl tt
three_ways (y ∷ front) (x ∷ type) = by (compare y x) (three_ways front type)
  where
    by : (y < x) ⊎ ((y ≡ x) ⊎ (x < y)) → Earlier front type ⊎ (Begins front type ⊎ Before type front)
        → Earlier (y ∷ front) (x ∷ type) ⊎ (Begins (y ∷ front) (x ∷ type) ⊎ Before (x ∷ type) (y ∷ front))
    by (inl l) later = inl (inl l)
    by (inr (inl e)) (inl a) = inl (inr (e, a))
    by (inr (inl e)) (inr (inl b)) = inr (inl (e, b))
    by (inr (inl e)) (inr (inr c)) = inr (inr (inr (sym e, c)))
    by (inr (inr m)) later = inr (inr (inl m))

-- ---- what no light front begins with

begins_on : (type front xs : List ℕ) → Begins type front → Begins front xs → Begins type xs
begins_on type front [] b c = tt
begins_on type [] (x ∷ xs) b c = absurd c
begins_on [] (y ∷ front) (x ∷ xs) b c = absurd b
begins_on (z ∷ type) (y ∷ front) (x ∷ xs) b c = (b.0 ∙ c.0, begins_on type front xs b.1 c.1)

module _ (p : PatchList) (weights : List ℕ) (least : ℕ) (front : List ℕ) (light : IsLightFront p weights least front) where
  abbrev type : List ℕ
  type = light.lighter.0

  pub light_digit : (j : ℕ) → j < length front → slice_index front j < length p.patches
  light_digit j below = subst (λ i. i < length p.patches) (begins_at type front light.lighter.2 j below) (light.lighter.1.patch j (omega (arith, below, light.short)))

  module _ (xs : List ℕ) (i d : ℕ) (count : length xs ≡ d) (begins : Begins front (xs ++ i ∷ [])) where
    there : d < length front
    there = omega (arith, begins_length front (xs ++ i ∷ []) begins, length-append xs (i ∷ []), count)

    at : slice_index front d ≡ i
    at = begins_at front (xs ++ i ∷ []) begins d (omega (arith, length-append xs (i ∷ []), count)) ∙ last_digit xs i d count

    on_budget : budget_at p i ≡ d
    on_budget =
        ap (budget_at p) (sym at) ∙ ap (budget_at p) (sym (begins_at type front light.lighter.2 d there))
        ∙ light.lighter.1.on_its_budget d (omega (arith, there, light.short))

    -- a patch of another budget, or a violation
    pub not_begun : (budget_at p i ≢ d) ⊎ (¬ IsRationalBelow p (xs ++ i ∷ [])) → ⊥
    not_begun (inl other) = other on_budget
    not_begun (inr violated) = violated (rational_begun p front (xs ++ i ∷ []) begins light.rational)

    -- patches that weigh enough with the lightest of the budgets to come
    pub not_so_light : (to_come : List ℕ) → AreLeastToCome p weights to_come → d < p.budgets → least ≤ cells_weight weights (xs ++ i ∷ []) + slice_index to_come d → ⊥
    not_so_light to_come at_least deep enough =
        let first : length (xs ++ i ∷ []) ≡ d + 1 = omega (arith, length-append xs (i ∷ []), count) in
        let heavy : cells_weight weights (xs ++ i ∷ []) ≡ first_weigh weights type (d + 1) =
        as_heavy weights type (xs ++ i ∷ []) (begins_on type front (xs ++ i ∷ []) light.lighter.2 begins) ∙ ap (first_weigh weights type) first in
        omega (arith, enough, heavy, at_least.no_less d deep type light.lighter.1, light.lighter.3)
