-- Words, one after the other.
use Rattle.std.proofs.Common.{◌≡◌, ◌+◌, ◌<◌, ◌≤◌, ℕ, zero, suc, Bool, true, false, if◌then◌else◌, List, [], ◌∷◌, drop, length, get_or, Option, Some, None, refl, sym, ap, ◌∙◌, arith, add-one, drop-cons}
use Rattle.std.specs.Prelude.{option_and_then}
use Rattle.rp_panel_run.specs.Questions.{Asking, all_taken, is_whole, taken, where_whole}

cons_at : {A : Type 0} (l : List A) (j : ℕ) (d : A) → j < length l → drop j l ≡ get_or l j d ∷ drop (j + 1) l
cons_at l j d within = drop-cons l j d within ∙ ap (λ (n : ℕ). get_or l j d ∷ drop n l) (sym (add-one j))

-- a word that may follow, and one that may not
pub word_more : (a next : Asking) (word : List ℕ) (i : ℕ) (words : List (List ℕ)) → i < length words → word ≡ get_or words i [] → taken a word ≡ Some next
    → all_taken next (drop (i + 1) words) ≡ all_taken a (drop i words)
word_more a next word i words within is more =
    sym (ap (all_taken a) (cons_at words i [] within) ∙ ap (λ (w : List ℕ). option_and_then (λ n. all_taken n (drop (i + 1) words)) (taken a w)) (sym is)
    ∙ ap (option_and_then (λ n. all_taken n (drop (i + 1) words))) more)

pub no_word : (a : Asking) (word : List ℕ) (i : ℕ) (words : List (List ℕ)) → i < length words → word ≡ get_or words i [] → taken a word ≡ None → all_taken a (drop i words) ≡ None
no_word a word i words within is none =
    ap (all_taken a) (cons_at words i [] within) ∙ ap (λ (w : List ℕ). option_and_then (λ n. all_taken n (drop (i + 1) words)) (taken a w)) (sym is)
    ∙ ap (option_and_then (λ n. all_taken n (drop (i + 1) words))) none

drop_past : {A : Type 0} (l : List A) (j : ℕ) → length l ≤ j → drop j l ≡ []
drop_past [] zero past = refl
drop_past [] (suc j) past = refl
drop_past (x ∷ l) zero past = absurd (omega (arith, past))
drop_past (x ∷ l) (suc j) past = drop_past l j (omega (arith, past))

-- no word is left
pub no_more : (a : Asking) (i : ℕ) (words : List (List ℕ)) → length words ≤ i → all_taken a (drop i words) ≡ Some a
no_more a i words past = ap (all_taken a) (drop_past words i past)

-- a word that was taken, and one that was not
pub was_taken : (yes : Bool) (o : Option Asking) (next : Asking) → o ≡ (if yes then Some next else None) → yes ≡ true → o ≡ Some next
was_taken true o next is e = is
was_taken false o next is e = cc e

pub not_taken : (yes : Bool) (o : Option Asking) (next : Asking) → o ≡ (if yes then Some next else None) → yes ≡ false → o ≡ None
not_taken true o next is e = cc e
not_taken false o next is e = is

-- what is whole, and what is not
pub whole : (a : Asking) → is_whole a ≡ true → where_whole a ≡ Some a
whole a e = rw e refl

pub not_whole : (a : Asking) → is_whole a ≡ false → where_whole a ≡ None
not_whole a e = rw e refl
