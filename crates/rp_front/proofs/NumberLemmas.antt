-- Digits, one after the other.
use Rattle.std.proofs.Common.{◌≡◌, ◌+◌, ◌<◌, ℕ, List, ◌∷◌, drop, length, get_or, Option, Some, None, sym, ap, ◌∙◌, add-one, drop-cons}
use Rattle.std.specs.Prelude.{option_and_then}
use Rattle.rp_front.specs.Numbers.{number_after, number_with}

cons_at : {A : Type 0} (l : List A) (j : ℕ) (d : A) → j < length l → drop j l ≡ get_or l j d ∷ drop (j + 1) l
cons_at l j d within = drop-cons l j d within ∙ ap (λ (n : ℕ). get_or l j d ∷ drop n l) (sym (add-one j))

-- a digit that may follow, and one that may not
pub digit_more : (most number byte longer i : ℕ) (text : List ℕ) → i < length text → byte ≡ get_or text i 0 → Some longer ≡ number_with most number byte
    → number_after most longer (drop (i + 1) text) ≡ number_after most number (drop i text)
digit_more most number byte longer i text within is more =
    sym (ap (number_after most number) (cons_at text i 0 within) ∙ ap (λ (b : ℕ). option_and_then (λ n. number_after most n (drop (i + 1) text)) (number_with most number b)) (sym is)
    ∙ ap (option_and_then (λ n. number_after most n (drop (i + 1) text))) (sym more))

pub no_digit : (most number byte i : ℕ) (text : List ℕ) → i < length text → byte ≡ get_or text i 0 → None ≡ number_with most number byte → None ≡ number_after most number (drop i text)
no_digit most number byte i text within is none =
    sym (ap (number_after most number) (cons_at text i 0 within) ∙ ap (λ (b : ℕ). option_and_then (λ n. number_after most n (drop (i + 1) text)) (number_with most number b)) (sym is)
    ∙ ap (option_and_then (λ n. number_after most n (drop (i + 1) text))) (sym none))
