-- Which observations are in a set, as a truth value.
use Rattle.std.proofs.Common.{◌≡◌, ◌<◌, ◌||◌, ◌==◌, ◌⊎◌, inl, inr, ℕ, zero, suc, Bool, true, false, List, [], ◌∷◌, length, refl, sym, ◌∙◌, arith, Contains, get_or}
use Rattle.std.proofs.lemmas.Bool.{false≢true}
use Rattle.std.proofs.lemmas.Bool.Decides.{Decides-eqb}
use Rattle.rp_fit.specs.Groups.{is_among}

pub contains_later : (x : ℕ) (xs : List ℕ) (t : ℕ) → Contains xs t → Contains (x ∷ xs) t
contains_later x xs t there = (suc there.0, omega (arith, there.1), there.2)

pub contains_cases : (x : ℕ) (xs : List ℕ) (t : ℕ) → Contains (x ∷ xs) t → (x ≡ t) ⊎ Contains xs t
contains_cases x xs t there = go there.0 there.1 there.2
  where
    go : (k : ℕ) → k < suc (length xs) → get_or (x ∷ xs) k t ≡ t → (x ≡ t) ⊎ Contains xs t
    go zero l e = inl e
    go (suc k) l e = inr (k, omega arith, e)

pub among_is_there : (members : List ℕ) (s : ℕ) → is_among members s ≡ true → Contains members s
among_is_there [] s h = absurd (false≢true h)
among_is_there (m ∷ rest) s h = go (λ d. among_is_there rest s d) (m == s) refl h
  where
    go : (is_among rest s ≡ true → Contains rest s) → (b : Bool) → (m == s) ≡ b → (b || is_among rest s) ≡ true → Contains (m ∷ rest) s
    go later true e h = (0, omega arith, (Decides-eqb m s).0 e)
    go later false e h = contains_later m rest s (later h)

pub there_is_among : (members : List ℕ) (s : ℕ) → Contains members s → is_among members s ≡ true
there_is_among [] s there = absurd (omega (arith, there.1))
there_is_among (m ∷ rest) s there = go (λ d. there_is_among rest s d) (m == s) refl (contains_cases m rest s there)
  where
    go : (Contains rest s → is_among rest s ≡ true) → (b : Bool) → (m == s) ≡ b → (m ≡ s) ⊎ Contains rest s → (b || is_among rest s) ≡ true
    go later true e h = refl
    go later false e (inl h) = absurd (false≢true (sym e ∙ (Decides-eqb m s).1 h))
    go later false e (inr h) = later h
