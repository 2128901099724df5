-- What all patches that were chosen are, one by one and together.
use Rattle.std.proofs.Common.{◌≡◌, ℕ, zero, suc, ◌+◌, ◌-◌, ◌<◌, ◌≤◌, ◌==◌, ◌&&◌, ◌++◌, Bool, true, false, ℤ, List, [], ◌∷◌, All, map, length, get_or, sum_by, refl, sym, ap, subst, ◌∙◌, arith, ◌⊎◌, inl, inr, length-append, rules, nat_lt, if◌then◌else◌}
use Rattle.std.specs.Cmp.Lexicographic.{pointwise}
use Rattle.std.specs.Ordering.{int_eq}
use Rattle.std.proofs.lemmas.Bool.{cases_eq, eq-eqb, ne_eqb}
use Rattle.std.proofs.lemmas.List.{get_or_append_left, get_or-append_right}
use Rattle.std.proofs.lemmas.List.Elements.{All-append, All-cons, All-map, All-nil}
use Rattle.std.proofs.lemmas.List.FromFn.{length-map-range_with_len}
use Rattle.std.proofs.lemmas.List.Sums.{sum_by-append, sum_by-cons}
use Rattle.rp_table.specs.Sums.{sum_below}
use Rattle.rp_table.proofs.SumsBelow.{sum_below-same}
use Rattle.rp_patch.specs.Choices.{RandomInput, times_on}
use Rattle.rp_patch.specs.Signs.{signs_of}
use Rattle.rp_patch.specs.Units.{all_chosen, chosen_as, chosen_at, chosen_below, counted, tally_by, tally_on}
use Rattle.rp_patch.specs.declared.chosen.Chosen.{Chosen}

-- ---- sums

pub sum_first : (f : ℕ → ℕ) (n : ℕ) → sum_below (suc n) f ≡ f 0 + sum_below n (λ i. f (suc i))
sum_first f zero = omega arith
sum_first f (suc n) = omega (arith, sum_first f n)

-- a sum over a list by its places
pub sum_of_list : {A : Type 0} (f : A → ℕ) (d : A) (xs : List A) → sum_below (length xs) (λ i. f (get_or xs i d)) ≡ sum_by f xs
sum_of_list f d [] = refl
sum_of_list f d (x ∷ xs) = sum_first (λ i. f (get_or (x ∷ xs) i d)) (length xs) ∙ ap (λ n. f x + n) (sum_of_list f d xs) ∙ sym (sum_by-cons f x xs)

-- ---- how many choices

abbrev times_in : List (List ℤ × ℕ) → ℕ
times_in entries = sum_by (λ entry. entry.1) entries

counted_total : (entries : List (List ℤ × ℕ)) (signs : List ℤ) (times : ℕ) → times_in (counted entries signs times) ≡ times_in entries + times
counted_total [] signs times = omega arith
counted_total (e ∷ es) signs times = by (pointwise int_eq signs e.0) (counted_total es signs times)
  where
    by : (b : Bool) → times_in (counted es signs times) ≡ times_in es + times
        → times_in (if b then (e.0, e.1 + times) ∷ es else e ∷ counted es signs times) ≡ times_in (e ∷ es) + times
    by true rest = omega (arith, sum_by-cons (λ (x : List ℤ × ℕ). x.1) (e.0, e.1 + times) es, sum_by-cons (λ (x : List ℤ × ℕ). x.1) e es)
    by false rest = omega (arith, rest, sum_by-cons (λ (x : List ℤ × ℕ). x.1) e (counted es signs times), sum_by-cons (λ (x : List ℤ × ℕ). x.1) e es)

tally_total : (signs : ℕ → List ℤ) (counts : ℕ → Bool) (times : ℕ → ℕ) (n : ℕ) → times_in (tally_by signs counts times n) ≡ sum_below n (λ i. if counts i then times i else 0)
tally_total signs counts times zero = refl
tally_total signs counts times (suc n) = by (counts n) (tally_total signs counts times n)
  where
    by : (b : Bool) → times_in (tally_by signs counts times n) ≡ sum_below n (λ i. if counts i then times i else 0)
        → times_in (if b then counted (tally_by signs counts times n) (signs n) (times n) else tally_by signs counts times n)
        ≡ sum_below n (λ i. if counts i then times i else 0) + (if b then times n else 0)
    by true rest = counted_total (tally_by signs counts times n) (signs n) (times n) ∙ ap (λ k. k + times n) rest
    by false rest = omega (arith, rest)

none_counts : (b : Bool) (t : ℕ) → (if b && nat_lt 0 t then t else 0) ≡ (if b then t else 0)
none_counts false t = refl
none_counts true zero = refl
none_counts true (suc t) = search rules

pub total_on : (input : RandomInput) (j : ℕ) → times_in (tally_on input j) ≡ times_on input j
total_on input j =
    tally_total (signs_of input) (λ i. (input.budget i == j) && nat_lt 0 (input.times i)) input.times input.choices
    ∙ sum_below-same _ _ input.choices (λ i within. none_counts (input.budget i == j) (input.times i))

-- the times of budget j, of those chosen
abbrev pub times_if : ℕ → Chosen → ℕ
times_if j one = if one.budget == j then one.times else 0

of_one_budget : (k j : ℕ) (entries : List (List ℤ × ℕ)) → sum_by (times_if j) (map (chosen_as k) entries) ≡ (if k == j then times_in entries else 0)
of_one_budget k j [] = by (k == j)
  where
    by : (b : Bool) → ◌≡◌ {A = ℕ} 0 (if b then 0 else 0)
    by true = refl
    by false = refl
of_one_budget k j (e ∷ es) =
    sum_by-cons (times_if j) (chosen_as k e) (map (chosen_as k) es)
    ∙ ap (λ n. (if k == j then e.1 else 0) + n) (of_one_budget k j es) ∙ by (k == j)
  where
    by : (b : Bool) → ◌≡◌ {A = ℕ} ((if b then e.1 else 0) + (if b then times_in es else 0)) (if b then times_in (e ∷ es) else 0)
    by true = sym (sum_by-cons (λ (x : List ℤ × ℕ). x.1) e es)
    by false = refl

of_later : (input : RandomInput) (n j : ℕ) → n ≤ j → sum_by (times_if j) (chosen_below input n) ≡ 0
of_later input zero j l = refl
of_later input (suc n) j l =
    let apart : n ≡ j → ⊥ = λ e. omega (arith, e) in
    let here : sum_by (times_if j) (map (chosen_as n) (tally_on input n)) ≡ 0 = of_one_budget n j (tally_on input n) ∙ ap (λ b. if b then times_in (tally_on input n) else 0) (ne_eqb n j apart) in
    sum_by-append (times_if j) (chosen_below input n) (map (chosen_as n) (tally_on input n)) ∙ omega (arith, of_later input n j (omega arith), here)

of_budget : (input : RandomInput) (n j : ℕ) → j < n → sum_by (times_if j) (chosen_below input n) ≡ times_on input j
of_budget input zero j l = absurd (omega arith)
of_budget input (suc n) j l =
    sum_by-append (times_if j) (chosen_below input n) (map (chosen_as n) (tally_on input n))
    ∙ elim (cases_eq n j) [
      | inl e ↦
          let here : sum_by (times_if j) (map (chosen_as n) (tally_on input n)) ≡ times_on input n =
          of_one_budget n j (tally_on input n) ∙ ap (λ b. if b then times_in (tally_on input n) else 0) (eq-eqb n j e) ∙ total_on input n in
          let before : sum_by (times_if j) (chosen_below input n) ≡ 0 = of_later input n j (omega (arith, e)) in
          subst (λ m. sum_by (times_if j) (chosen_below input n) + sum_by (times_if j) (map (chosen_as n) (tally_on input n)) ≡ times_on input m) e (omega (arith, here, before))
      | inr d ↦
          let here : sum_by (times_if j) (map (chosen_as n) (tally_on input n)) ≡ 0 =
          of_one_budget n j (tally_on input n) ∙ ap (λ b. if b then times_in (tally_on input n) else 0) (ne_eqb n j d) in
          omega (arith, of_budget input n j (omega (arith, d)), here)
    ]

-- those chosen on a budget are all choices on it
pub chosen_total : (input : RandomInput) (j : ℕ) → j < input.budgets
    → sum_below (length (all_chosen input)) (λ i. times_if j (chosen_at (all_chosen input) i)) ≡ times_on input j
chosen_total input j within =
    sum_of_list (times_if j) (record { budget = 0; signs = []; times = 0 }) (all_chosen input) ∙ of_budget input input.budgets j within

-- ---- each of them

counted_signs : (B : ℕ) (entries : List (List ℤ × ℕ)) (signs : List ℤ) (times : ℕ) → length signs ≡ B → All (λ e. length e.0 ≡ B) entries → All (λ e. length e.0 ≡ B) (counted entries signs times)
counted_signs B [] signs times is all = All-cons (λ (e : List ℤ × ℕ). length e.0 ≡ B) (signs, times) [] is (All-nil (λ (e : List ℤ × ℕ). length e.0 ≡ B))
counted_signs B (e ∷ es) signs times is all = by (pointwise int_eq signs e.0) (counted_signs B es signs times is rest)
  where
    rest : All (λ (e : List ℤ × ℕ). length e.0 ≡ B) es
    rest = λ k d within. all (suc k) d (omega arith)

    by : (b : Bool) → All (λ (e : List ℤ × ℕ). length e.0 ≡ B) (counted es signs times)
        → All (λ (e : List ℤ × ℕ). length e.0 ≡ B) (if b then (e.0, e.1 + times) ∷ es else e ∷ counted es signs times)
    by true more = All-cons (λ (e : List ℤ × ℕ). length e.0 ≡ B) (e.0, e.1 + times) es (all 0 e (omega arith)) rest
    by false more = All-cons (λ (e : List ℤ × ℕ). length e.0 ≡ B) e (counted es signs times) (all 0 e (omega arith)) more

tally_signs : (B : ℕ) (signs : ℕ → List ℤ) (counts : ℕ → Bool) (times : ℕ → ℕ) (n : ℕ) → ((i : ℕ) → length (signs i) ≡ B) → All (λ e. length e.0 ≡ B) (tally_by signs counts times n)
tally_signs B signs counts times zero is = All-nil (λ (e : List ℤ × ℕ). length e.0 ≡ B)
tally_signs B signs counts times (suc n) is = by (counts n) (tally_signs B signs counts times n is)
  where
    by : (b : Bool) → All (λ e. length e.0 ≡ B) (tally_by signs counts times n)
        → All (λ (e : List ℤ × ℕ). length e.0 ≡ B) (if b then counted (tally_by signs counts times n) (signs n) (times n) else tally_by signs counts times n)
    by true all = counted_signs B (tally_by signs counts times n) (signs n) (times n) (is n) all
    by false all = all

abbrev IsOn : RandomInput → ℕ → Chosen → Type 0
IsOn input j one = (one.budget ≡ j) × (length one.signs ≡ input.budgets)

on_budget : (input : RandomInput) (j : ℕ) → All (IsOn input j) (map (chosen_as j) (tally_on input j))
on_budget input j =
    let all = tally_signs input.budgets (signs_of input) (λ i. (input.budget i == j) && nat_lt 0 (input.times i)) input.times input.choices (λ i. length-map-range_with_len _ 0 input.budgets) in
    All-map (IsOn input j) (chosen_as j) (tally_on input j) (λ k d within. (refl, all k d within))

abbrev IsBelow : RandomInput → ℕ → Chosen → Type 0
IsBelow input n one = (one.budget < n) × (length one.signs ≡ input.budgets)

below : (input : RandomInput) (n : ℕ) → All (IsBelow input n) (chosen_below input n)
below input zero = All-nil (IsBelow input 0)
below input (suc n) =
    let first = below input n in
    let second = on_budget input n in
    All-append (IsBelow input (suc n)) (chosen_below input n) (map (chosen_as n) (tally_on input n))
    (λ k d within. let h = first k d within in (omega (arith, h.0), h.1))
    (λ k d within. let h = second k d within in (omega (arith, h.0), h.1))

abbrev no_one : Chosen
no_one = record { budget = 0; signs = []; times = 0 }

rising : (input : RandomInput) (n h i : ℕ) → h ≤ i → i < length (chosen_below input n) → (chosen_at (chosen_below input n) h).budget ≤ (chosen_at (chosen_below input n) i).budget
rising input zero h i le within = absurd (omega (arith, within))
rising input (suc n) h i le within =
    let xs = chosen_below input n in
    let ys = map (chosen_as n) (tally_on input n) in
    let many = length-append xs ys in
    by xs ys many within (λ le in_i. rising input n h i le in_i) (below input n) (on_budget input n) (index_cases h (length xs)) (index_cases i (length xs))
  where
    index_cases : (k m : ℕ) → (k < m) ⊎ (m ≤ k)
    index_cases zero zero = inr (omega arith)
    index_cases zero (suc m) = inl (omega arith)
    index_cases (suc k) zero = inr (omega arith)
    index_cases (suc k) (suc m) = elim (index_cases k m) [ inl l ↦ inl (omega (arith, l)) | inr g ↦ inr (omega (arith, g)) ]

    by : (xs ys : List Chosen) → length (xs ++ ys) ≡ length xs + length ys → i < length (xs ++ ys) → (h ≤ i → i < length xs → (chosen_at xs h).budget ≤ (chosen_at xs i).budget)
        → All (IsBelow input n) xs → All (IsOn input n) ys → (h < length xs) ⊎ (length xs ≤ h) → (i < length xs) ⊎ (length xs ≤ i)
        → (chosen_at (xs ++ ys) h).budget ≤ (chosen_at (xs ++ ys) i).budget
    by xs ys many in_all so_far low on (inl a) (inl b) =
        rw (get_or_append_left xs ys no_one h a, get_or_append_left xs ys no_one i b) (so_far le b)
    by xs ys many in_all so_far low on (inl a) (inr b) =
        let first = low h no_one a in
        let second = on (i - length xs) no_one (omega (arith, many, in_all, b)) in
        rw (get_or_append_left xs ys no_one h a, get_or-append_right xs ys (length xs) i no_one refl b) (omega (arith, first.0, second.0))
    by xs ys many in_all so_far low on (inr a) (inl b) = absurd (omega (arith, a, b, le))
    by xs ys many in_all so_far low on (inr a) (inr b) =
        let first = on (h - length xs) no_one (omega (arith, many, in_all, a, le)) in
        let second = on (i - length xs) no_one (omega (arith, many, in_all, b)) in
        rw (get_or-append_right xs ys (length xs) h no_one refl a, get_or-append_right xs ys (length xs) i no_one refl b) (omega (arith, first.0, second.0))

-- each has a budget and a sign to every budget, and they stand by budget
pub chosen_budget : (input : RandomInput) (i : ℕ) → i < length (all_chosen input) → (chosen_at (all_chosen input) i).budget < input.budgets
chosen_budget input i within = (below input input.budgets i no_one within).0

pub chosen_signs : (input : RandomInput) (i : ℕ) → i < length (all_chosen input) → length (chosen_at (all_chosen input) i).signs ≡ input.budgets
chosen_signs input i within = (below input input.budgets i no_one within).1

pub chosen_rising : (input : RandomInput) (h i : ℕ) → h ≤ i → i < length (all_chosen input) → (chosen_at (all_chosen input) h).budget ≤ (chosen_at (all_chosen input) i).budget
chosen_rising input h i le within = rising input input.budgets h i le within
