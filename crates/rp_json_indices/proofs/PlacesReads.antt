-- The observations at whose bundles the levels are, and their numbers.
use Rattle.std.proofs.Common.{◌≡◌, ◌≢◌, ◌⊎◌, inl, inr, ℕ, zero, suc, ◌+◌, ◌<◌, ◌==◌, true, false, if◌then◌else◌, List, [], ◌∷◌, ◌++◌, All, map, take, length, get_or, Option, Some, None, Result, Ok, Err, IfOk, length-take, refl, sym, ap, subst, ◌∙◌, arith}
use Rattle.std.proofs.lemmas.Bool.Decides.{eqb_tells}
use Rattle.std.proofs.lemmas.List.{map-append, take_more}
use Rattle.serde_json.specs.Data.{Data}
use Rattle.rp_json_entries.specs.Reading.{FitObservations, FitsCount, FitsObservation, IsFound}
use Rattle.rp_json_entries.specs.Values.{count_value, counts_value}
use Rattle.rp_json_indices.specs.PlacesValue.{place_number, place_numbers, places_value}
use Rattle.rp_json_entries.proofs.ListLemmas.{all_first, all_more, all_none, all_rest}

abbrev head_or : ℕ → List ℕ → ℕ
head_or x [] = x
head_or x (y ∷ ys) = y

abbrev tail_of : List ℕ → List ℕ
tail_of [] = []
tail_of (y ∷ ys) = ys

-- ---- one number

place_tells : (s t : ℕ) → ((t ≡ s) × (place_number s t ≡ 0)) ⊎ ((t ≢ s) × (place_number s t ≡ t + 1))
place_tells s t = either (eqb_tells t s)
  where
    either : (((t == s) ≡ true) × (t ≡ s)) ⊎ (((t == s) ≡ false) × (t ≢ s)) → ((t ≡ s) × (place_number s t ≡ 0)) ⊎ ((t ≢ s) × (place_number s t ≡ t + 1))
    either (inl (b, e)) = inl (e, ap (λ x. if x then 0 else t + 1) b)
    either (inr (b, e)) = inr (e, ap (λ x. if x then 0 else t + 1) b)

place_one : (s t u : ℕ) → place_number s t ≡ place_number s u → t ≡ u
place_one s t u e = either (place_tells s t) (place_tells s u)
  where
    either : ((t ≡ s) × (place_number s t ≡ 0)) ⊎ ((t ≢ s) × (place_number s t ≡ t + 1))
        → ((u ≡ s) × (place_number s u ≡ 0)) ⊎ ((u ≢ s) × (place_number s u ≡ u + 1)) → t ≡ u
    either (inl (a, b)) (inl (c, d)) = a ∙ sym c
    either (inl (a, b)) (inr (c, d)) = absurd (omega (arith, b, d, e))
    either (inr (a, b)) (inl (c, d)) = absurd (omega (arith, b, d, e))
    either (inr (a, b)) (inr (c, d)) = omega (arith, b, d, e)

-- the observation that has this number, where there is one
pub place_found : (s t number : ℕ) → place_number s t ≡ number → FitsObservation t → IsFound (place_number s) FitsObservation number (Some t)
place_found s t number e fits = (e, fits, λ u h f. place_one s u t (f ∙ sym e))

pub own_place : (s : ℕ) → place_number s s ≡ 0
own_place s = either (place_tells s s)
  where
    either : ((s ≡ s) × (place_number s s ≡ 0)) ⊎ ((s ≢ s) × (place_number s s ≡ s + 1)) → place_number s s ≡ 0
    either (inl (a, b)) = b
    either (inr (a, b)) = absurd (a refl)

pub other_place : (s t : ℕ) → t ≢ s → place_number s t ≡ t + 1
other_place s t other = either (place_tells s t)
  where
    either : ((t ≡ s) × (place_number s t ≡ 0)) ⊎ ((t ≢ s) × (place_number s t ≡ t + 1)) → place_number s t ≡ t + 1
    either (inl (a, b)) = absurd (other a)
    either (inr (a, b)) = b

-- only an observation itself has the number 0
pub no_own_place : (s number : ℕ) → number ≡ 0 → ¬ FitsObservation s → IsFound (place_number s) FitsObservation number None
no_own_place s number zero_number past t fits e = either (place_tells s t)
  where
    either : ((t ≡ s) × (place_number s t ≡ 0)) ⊎ ((t ≢ s) × (place_number s t ≡ t + 1)) → ⊥
    either (inl (a, b)) = past (subst FitsObservation a fits)
    either (inr (a, b)) = omega (arith, b, e, zero_number)

-- no observation has the number that it would have if it were another
pub no_other_place : (s number : ℕ) → number ≡ s + 1 → IsFound (place_number s) FitsObservation number None
no_other_place s number is t fits e = either (place_tells s t)
  where
    either : ((t ≡ s) × (place_number s t ≡ 0)) ⊎ ((t ≢ s) × (place_number s t ≡ t + 1)) → ⊥
    either (inl (a, b)) = omega (arith, b, e, is)
    either (inr (a, b)) = a (omega (arith, b, e, is))

-- ---- all numbers

length_numbers : (s : ℕ) (at : List ℕ) → length (place_numbers s at) ≡ length at
length_numbers s [] = refl
length_numbers s (t ∷ at) = ap suc (length_numbers (s + 1) at)

pub numbers_one : (s : ℕ) (xs ys : List ℕ) → place_numbers s xs ≡ place_numbers s ys → xs ≡ ys
numbers_one s [] [] e = refl
numbers_one s [] (y ∷ ys) e = absurd cc
numbers_one s (x ∷ xs) [] e = absurd cc
numbers_one s (x ∷ xs) (y ∷ ys) e =
    let here = place_one s x y (ap (head_or 0) e) in
    let rest = numbers_one (s + 1) xs ys (ap tail_of e) in
    λ i. here i ∷ rest i

numbers_more : (s : ℕ) (at : List ℕ) (t : ℕ) → place_numbers s (at ++ t ∷ []) ≡ place_numbers s at ++ place_number (s + length at) t ∷ []
numbers_more s [] t = let e : s ≡ s + 0 = omega arith in ap (λ k. place_number k t ∷ []) e
numbers_more s (x ∷ at) t =
    let e : (s + 1) + length at ≡ s + suc (length at) = omega arith in
    ap (λ l. place_number s x ∷ l) (numbers_more (s + 1) at t ∙ ap (λ k. place_numbers (s + 1) at ++ place_number k t ∷ []) e)

all_push : {X : Type 0} (P : X → Type 0) (xs : List X) (x : X) → All P xs → P x → All P (xs ++ x ∷ [])
all_push P [] x h here = all_more P x [] here (all_none P)
all_push P (y ∷ xs) x h here = all_more P y (xs ++ x ∷ []) (all_first P y xs h) (all_push P xs x (all_rest P y xs h) here)

-- as far as the numbers are read
abbrev pub AreUpTo : List ℕ → ℕ → List ℕ → Type 0
AreUpTo numbers k at = (place_numbers 0 at ≡ take k numbers) × FitObservations at × (length at ≡ k)

pub one_more : (numbers : List ℕ) (k number t : ℕ) (at new : List ℕ) → k < length numbers → number ≡ get_or numbers k number → AreUpTo numbers k at
    → IsFound (place_number k) FitsObservation number (Some t) → new ≡ at ++ t ∷ [] → AreUpTo numbers (k + 1) new
one_more numbers k number t at new within is so found are =
    subst (AreUpTo numbers (k + 1)) (sym are) (whole, all_push FitsObservation at t so.1 found.1, counted)
  where
    here : place_number (0 + length at) t ≡ get_or numbers k number
    here = let same : 0 + length at ≡ k = omega (arith, so.2) in ap (λ n. place_number n t) same ∙ found.0 ∙ is

    whole : place_numbers 0 (at ++ t ∷ []) ≡ take (k + 1) numbers
    whole = numbers_more 0 at t ∙ (λ i. so.0 i ++ here i ∷ []) ∙ sym (take_more numbers k number within)

    counted : length (at ++ t ∷ []) ≡ k + 1
    counted = sym (length_numbers 0 (at ++ t ∷ [])) ∙ ap length whole ∙ omega (arith, within, length-take (k + 1) numbers)

pub all_read : (numbers at : List ℕ) (k : ℕ) → take k numbers ≡ numbers → AreUpTo numbers k at → IsFound (place_numbers 0) FitObservations numbers (Some at)
all_read numbers at k all so = (so.0 ∙ all, so.1, λ ys h e. numbers_one 0 ys at (e ∙ sym (so.0 ∙ all)))

none_from : (s : ℕ) (numbers : List ℕ) (k number : ℕ) → k < length numbers → number ≡ get_or numbers k number → ((t : ℕ) → FitsObservation t → place_number (s + k) t ≢ number)
    → (ys : List ℕ) → FitObservations ys → place_numbers s ys ≢ numbers
none_from s [] k number within is none ys h e = absurd (omega (arith, within))
none_from s (m ∷ numbers) k number within is none [] h e = absurd cc
none_from s (m ∷ numbers) zero number within is none (y ∷ ys) h e =
    let same : s ≡ s + 0 = omega arith in
    none y (all_first FitsObservation y ys h) (ap (λ n. place_number n y) (sym same) ∙ ap (head_or 0) e ∙ sym is)
none_from s (m ∷ numbers) (suc k) number within is none (y ∷ ys) h e =
    let same : (s + 1) + k ≡ s + suc k = omega arith in
    none_from (s + 1) numbers k number (omega (arith, within)) is (λ t fits f. none t fits (ap (λ n. place_number n t) (sym same) ∙ f)) ys (all_rest FitsObservation y ys h) (ap tail_of e)

pub none_read : (numbers : List ℕ) (k number : ℕ) → k < length numbers → number ≡ get_or numbers k number → IsFound (place_number k) FitsObservation number None
    → IsFound (place_numbers 0) FitObservations numbers None
none_read numbers k number within is none ys h e =
    let same : k ≡ 0 + k = omega arith in
    none_from 0 numbers k number within is (λ t fits f. none t fits (ap (λ n. place_number n t) same ∙ f)) ys h e

place_fits : (s t : ℕ) → FitsObservation t → FitsCount (place_number s t)
place_fits s t fits = either (place_tells s t)
  where
    either : ((t ≡ s) × (place_number s t ≡ 0)) ⊎ ((t ≢ s) × (place_number s t ≡ t + 1)) → FitsCount (place_number s t)
    either (inl (a, b)) = omega (arith, b)
    either (inr (a, b)) = omega (arith, b, fits)

pub numbers_fit : (s : ℕ) (ys : List ℕ) → FitObservations ys → All FitsCount (place_numbers s ys)
numbers_fit s [] h = all_none FitsCount
numbers_fit s (y ∷ ys) h =
    all_more FitsCount (place_number s y) (place_numbers (s + 1) ys) (place_fits s y (all_first FitsObservation y ys h)) (numbers_fit (s + 1) ys (all_rest FitsObservation y ys h))

-- what is read of the numbers is what is read of their value
pub numbers_found : {E : Type 0} (d : Data) (numbers : List ℕ) (r : Result (Option (List ℕ)) E) → IsFound counts_value (All FitsCount) d (Some numbers)
    → IfOk r (λ o. IsFound (place_numbers 0) FitObservations numbers o) → IfOk r (λ o. IsFound places_value FitObservations d o)
numbers_found d numbers (Err e) told here = tt
numbers_found d numbers (Ok (Some at)) told here = (ap counts_value here.0 ∙ told.0, here.1, λ ys h e. here.2 ys h (told.2 (place_numbers 0 ys) (numbers_fit 0 ys h) e))
numbers_found d numbers (Ok None) told here = λ ys h e. here ys h (told.2 (place_numbers 0 ys) (numbers_fit 0 ys h) e)

pub no_numbers : (d : Data) → IsFound counts_value (All FitsCount) d None → IsFound places_value FitObservations d None
no_numbers d none ys h e = none (place_numbers 0 ys) (numbers_fit 0 ys h) e

-- one more value of a number
pub one_shown : (at : List ℕ) (k t : ℕ) (ds new : List Data) → k < length at → t ≡ get_or at k t → ds ≡ map count_value (place_numbers 0 (take k at))
    → new ≡ ds ++ count_value (place_number k t) ∷ [] → new ≡ map count_value (place_numbers 0 (take (k + 1) at))
one_shown at k t ds new within is so are =
    are ∙ (λ i. so i ++ count_value (place_number (front i) t) ∷ []) ∙ sym (map-append count_value (place_numbers 0 (take k at)) (place_number (0 + length (take k at)) t ∷ []))
    ∙ ap (map count_value) (sym (numbers_more 0 (take k at) t)) ∙ ap (λ (l : List ℕ). map count_value (place_numbers 0 l)) ((λ i. take k at ++ is i ∷ []) ∙ sym (take_more at k t within))
  where
    front : k ≡ 0 + length (take k at)
    front = omega (arith, length-take k at, within)
