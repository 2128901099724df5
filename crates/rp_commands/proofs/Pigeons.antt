-- More values than places: a list of values that differ and all stand in another list is no longer than it.
use Rattle.std.proofs.Common.{◌≡◌, ◌≢◌, ◌<◌, ◌≤◌, ◌==◌, ℕ, zero, suc, Bool, true, false, List, [], ◌∷◌, Contains, AllPairs, length, get_or, if◌then◌else◌, refl, sym, ap, ◌∙◌, arith}
use Rattle.std.proofs.lemmas.Bool.{eqb-false, eqb-true, ltb-false, ltb-true}
use Rattle.std.proofs.lemmas.List.{get_or_default}
use Rattle.std.proofs.lemmas.List.Elements.{Contains-get_or}
use Rattle.std.specs.Prelude.{nat_lt}

-- a function that takes the numbers below m one to one to numbers below n
record IsInto (f : ℕ → ℕ) (m n : ℕ) : Type 0 where
  pub within : (i : ℕ) → i < m → f i < n
  pub one_to_one : (i j : ℕ) → i < j → j < m → f i ≢ f j

-- with the greatest place taken by what the last number had
moved : (ℕ → ℕ) → ℕ → ℕ → ℕ → ℕ
moved f m n i = if f i == n then f m else f i

moved_into : (f : ℕ → ℕ) (m n : ℕ) → IsInto f (suc m) (suc n) → IsInto (moved f m n) m n
unfolding moved
moved_into f m n into = record { within = λ i l. below i l (f i == n) refl; one_to_one = λ i j l k. apart i j l k (f i == n) (f j == n) refl refl }
  where
    below : (i : ℕ) → i < m → (b : Bool) → (f i == n) ≡ b → moved f m n i < n
    below i l true at =
        let same : f i ≡ n = eqb-true (f i) n at in
        let other = into.one_to_one i m l (omega arith) in
        rw at (omega (arith, into.within m (omega arith), same, other))
    below i l false off =
        let less = into.within i (omega arith) in
        let other = eqb-false (f i) n off in
        rw off (omega (arith, less, other))

    apart : (i j : ℕ) → i < j → j < m → (a b : Bool) → (f i == n) ≡ a → (f j == n) ≡ b → moved f m n i ≢ moved f m n j
    apart i j l k true true at too = λ e. into.one_to_one i j l (omega arith) (eqb-true (f i) n at ∙ sym (eqb-true (f j) n too))
    apart i j l k true false at off = rw (at, off) (λ e. into.one_to_one j m k (omega arith) (sym e))
    apart i j l k false true off at = rw (off, at) (λ e. into.one_to_one i m (omega arith) (omega arith) e)
    apart i j l k false false off too = rw (off, too) (into.one_to_one i j l (omega arith))

no_more : (m n : ℕ) (f : ℕ → ℕ) → IsInto f m n → m ≤ n
no_more zero n f into = omega arith
no_more (suc m) zero f into = let none = into.within 0 (omega arith) in absurd (omega (arith, none))
no_more (suc m) (suc n) f into = let rest = no_more m n (moved f m n) (moved_into f m n into) in omega (arith, rest)

pub no_longer : {X : Type 0} (xs ys : List X) → AllPairs (λ a b. a ≢ b) xs → ((x : X) → Contains xs x → Contains ys x) → length xs ≤ length ys
no_longer [] ys apart inside = omega arith
no_longer {X} (x ∷ xs) ys apart inside = no_more (length (x ∷ xs)) (length ys) place (record { within = within; one_to_one = one })
  where
    value : ℕ → X
    value i = get_or (x ∷ xs) i x

    found : (i : ℕ) → i < length (x ∷ xs) → Contains ys (value i)
    found i l = inside (value i) (Contains-get_or (x ∷ xs) i x l)

    place_in : (i : ℕ) (b : Bool) → nat_lt i (length (x ∷ xs)) ≡ b → ℕ
    place_in i true l = (found i (ltb-true i (length (x ∷ xs)) l)).0
    place_in i false l = 0

    place : ℕ → ℕ
    place i = place_in i (nat_lt i (length (x ∷ xs))) refl

    at : (i : ℕ) (l : i < length (x ∷ xs)) (b : Bool) (is : nat_lt i (length (x ∷ xs)) ≡ b) → (place_in i b is < length ys) × (get_or ys (place_in i b is) (value i) ≡ value i)
    at i l true is = let f = found i (ltb-true i (length (x ∷ xs)) is) in (f.1, f.2)
    at i l false is = let past = ltb-false i (length (x ∷ xs)) is in absurd (omega (arith, past, l))

    within : (i : ℕ) → i < length (x ∷ xs) → place i < length ys
    within i l = (at i l (nat_lt i (length (x ∷ xs))) refl).0

    one : (i j : ℕ) → i < j → j < length (x ∷ xs) → place i ≢ place j
    one i j l k = λ e.
        let a = at i (omega arith) (nat_lt i (length (x ∷ xs))) refl in
        let b = at j k (nat_lt j (length (x ∷ xs))) refl in
        let same : get_or ys (place i) (value i) ≡ get_or ys (place j) (value j) = ap (λ p. get_or ys p (value i)) e ∙ get_or_default ys (place j) (value i) (value j) b.0 in
        apart i j x l k (sym a.1 ∙ same ∙ b.1)
