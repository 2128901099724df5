-- Where a text stands among others, and what a run of tests below a bound left.
use Rattle.std.proofs.Common.{◌≡◌, ℕ, zero, suc, ◌<◌, ◌≤◌, ◌||◌, Bool, true, false, not, cond, nat_lt, List, [], length, get_or, Option, Some, None, Result, Ok, Err, refl, sym, ap, ◌∙◌, arith, below_more, is_some}
use Rattle.std.specs.List.{position_or_len}
use Rattle.std.specs.Option.{option_or}
use Rattle.std.specs.Result.{result_err, result_unwrap_or}
use Rattle.std.specs.Str.{bytes_eq}
use Rattle.std.proofs.lemmas.Bool.Decides.{nat_tests}
use Rattle.std.proofs.lemmas.List.Sums.{prefix_len_passes, prefix_len_stops}
use Rattle.std.proofs.lemmas.Slice.Eq.{bytes_eq-Decides}
use Rattle.rp_num.specs.Below.{first_of, any_below, greatest_below}
use Rattle.rp_forms.specs.Texts.{text_at, place_of}

lt_true : (n m : ℕ) → nat_lt n m ≡ true → n < m
lt_true n m e = grind (arith, nat_tests)

pub lt_false : (n m : ℕ) → nat_lt n m ≡ false → m ≤ n
lt_false n m e = grind (arith, nat_tests)

neither : (n m : ℕ) → nat_lt n m ≡ false → nat_lt m n ≡ false → n ≡ m
neither n m e f = grind (arith, nat_tests)

pub not_false : (b : Bool) → not b ≡ false → b ≡ true
not_false true e = refl
not_false false e = cc e

-- a text that stands nowhere
pub absent : (texts : List (List ℕ)) (text : List ℕ) (k : ℕ) → place_of texts text ≡ None → k < length texts → text_at texts k ≡ text → ⊥
absent texts text k none within is = by (nat_lt (position_or_len (bytes_eq text) texts) (length texts)) refl none
  where
    by : (b : Bool) → nat_lt (position_or_len (bytes_eq text) texts) (length texts) ≡ b → cond b (Some (position_or_len (bytes_eq text) texts)) None ≡ None → ⊥
    by true e n = cc n
    by false e n =
        let past = lt_false (position_or_len (bytes_eq text) texts) (length texts) e in
        let passes : not (bytes_eq text (get_or texts k [])) ≡ true = prefix_len_passes (λ y. not (bytes_eq text y)) texts k [] (omega (arith, past)) in
        let same : bytes_eq text (get_or texts k []) ≡ true = (bytes_eq-Decides text (get_or texts k [])).1 (sym is) in
        cc (sym (ap not same) ∙ passes)

-- a text that was found
pub found_at : (texts : List (List ℕ)) (text : List ℕ) (c : ℕ) → place_of texts text ≡ Some c → (c < length texts) × (text_at texts c ≡ text)
found_at texts text c there = by (nat_lt (position_or_len (bytes_eq text) texts) (length texts)) refl there
  where
    by : (b : Bool) → nat_lt (position_or_len (bytes_eq text) texts) (length texts) ≡ b → cond b (Some (position_or_len (bytes_eq text) texts)) None ≡ Some c → (c < length texts) × (text_at texts c ≡ text)
    by true e n =
        let place : position_or_len (bytes_eq text) texts ≡ c = cc n in
        let within = lt_true (position_or_len (bytes_eq text) texts) (length texts) e in
        let stops = prefix_len_stops (λ y. not (bytes_eq text y)) texts [] within in
        let same = (bytes_eq-Decides text (get_or texts (position_or_len (bytes_eq text) texts) [])).0 (not_false (bytes_eq text (get_or texts (position_or_len (bytes_eq text) texts) [])) stops) in
        rw (← place) (within, sym same)
    by false e n = cc n

-- a text that stands somewhere is found
pub present : (texts : List (List ℕ)) (text : List ℕ) (k : ℕ) → k < length texts → text_at texts k ≡ text → (c : ℕ) × (place_of texts text ≡ Some c)
present texts text k within is = by (place_of texts text) refl
  where
    by : (o : Option ℕ) → place_of texts text ≡ o → (c : ℕ) × (place_of texts text ≡ Some c)
    by None e = absurd (absent texts text k e within is)
    by (Some c) e = (c, e)

pub none_or : {A : Type 0} (o p : Option A) → option_or o p ≡ None → (o ≡ None) × (p ≡ None)
none_or None p e = (refl, e)
none_or (Some x) p e = cc e

-- none of those below
pub none_below : {A : Type 0} (f : ℕ → Option A) (n k : ℕ) → first_of n f ≡ None → k < n → f k ≡ None
none_below f zero k none within = absurd (omega arith)
none_below {A} f (suc n) k none within =
    let both = none_or (first_of n f) (f n) none in
    below_more (λ (i : ℕ). f i ≡ None) n (λ i below. none_below f n i both.0 below) both.1 k (omega arith)

-- a value without a fault
pub fine : {A E : Type 0} (r : Result A E) (d : A) → result_err r ≡ None → r ≡ Ok (result_unwrap_or r d)
fine (Ok x) d e = refl
fine (Err x) d e = cc e

-- one of those below
pub one_below : (f : ℕ → Bool) (n : ℕ) → any_below n f ≡ true → (k : ℕ) × (k < n) × (f k ≡ true)
one_below f zero e = cc e
one_below f (suc n) e = by (any_below n f) refl (λ b. one_below f n b)
  where
    by : (b : Bool) → any_below n f ≡ b → (any_below n f ≡ true → (k : ℕ) × (k < n) × (f k ≡ true)) → (k : ℕ) × (k < suc n) × (f k ≡ true)
    by true b earlier = let k = earlier b in (k.0, omega (arith, k.1), k.2)
    by false b earlier = (n, omega arith, sym (ap (λ (x : Bool). x || f n) b) ∙ e)

-- the greatest is at most a bound
pub greatest_at_most : (f : ℕ → ℕ) (n most : ℕ) → ((k : ℕ) → k < n → f k ≤ most) → greatest_below n f ≤ most
greatest_at_most f zero most each = omega arith
greatest_at_most f (suc n) most each = omega (arith, greatest_at_most f n most (λ k below. each k (omega arith)), each n (omega arith))

-- a text that does not stand among others
pub not_listed : (texts : List (List ℕ)) (text : List ℕ) → ((k : ℕ) → k < length texts → text_at texts k ≡ text → ⊥) → is_some (place_of texts text) ≡ false
not_listed texts text none = by (place_of texts text) (λ c there. let place = found_at texts text c there in none c place.0 place.1)
  where
    by : (o : Option ℕ) → ((c : ℕ) → o ≡ Some c → ⊥) → is_some o ≡ false
    by None h = refl
    by (Some c) h = absurd (h c refl)

-- where no text stands twice, one place has each
pub one_place : (texts : List (List ℕ)) → ((i j : ℕ) → i < j → j < length texts → text_at texts i ≡ text_at texts j → ⊥) → (i j : ℕ) → i < length texts → j < length texts → text_at texts i ≡ text_at texts j → i ≡ j
one_place texts distinct i j within_i within_j same = by (nat_lt i j) refl (nat_lt j i) refl
  where
    by : (x : Bool) → nat_lt i j ≡ x → (y : Bool) → nat_lt j i ≡ y → i ≡ j
    by true e y f = absurd (distinct i j (lt_true i j e) within_j same)
    by false e true f = absurd (distinct j i (lt_true j i f) within_i (sym same))
    by false e false f = neither i j e f
