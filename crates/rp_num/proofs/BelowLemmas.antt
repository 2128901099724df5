-- What comes first, or holds, among the numbers below a bound, as the bound grows.
use Rattle.std.proofs.Common.{◌≡◌, ℕ, zero, suc, ◌+◌, ◌<◌, Bool, true, false, ◌||◌, List, [], ◌∷◌, ◌++◌, length, get_or, Option, Some, None, Result, Ok, Err, refl, ap, ◌∙◌, arith, add-one, below_more, length-append}
use Rattle.std.specs.Result.{result_err}
use Rattle.std.proofs.lemmas.List.{get_or_append_left, get_or_push}
use Rattle.rp_num.specs.Below.{first_of, any_below, listed}

-- nothing so far, and nothing at the next
pub none_so_far : {A : Type 0} (f : ℕ → Option A) (n : ℕ) → first_of n f ≡ None → f n ≡ None → first_of (n + 1) f ≡ None
none_so_far f n before here = rw (add-one, before, here) refl

-- the first that is there
pub first_at : {A : Type 0} (f : ℕ → Option A) (k n : ℕ) (x : A) → k < n → first_of k f ≡ None → f k ≡ Some x → first_of n f ≡ Some x
first_at {A} f k zero x within before here = absurd (omega arith)
first_at {A} f k (suc n) x within before here =
    below_more (λ (i : ℕ). first_of i f ≡ None → f i ≡ Some x → first_of (suc n) f ≡ Some x) n
    (λ i below none there. rw (first_at f i n x below none there) refl)
    (λ none there. rw (none, there) refl)
    k (omega arith) before here

-- no fault so far, and none at the next
pub no_fault_so_far : {A E : Type 0} (f : ℕ → Result A E) (n : ℕ) (x : A) → first_of n (λ k. result_err (f k)) ≡ None → f n ≡ Ok x → first_of (n + 1) (λ k. result_err (f k)) ≡ None
no_fault_so_far f n x before here = none_so_far (λ k. result_err (f k)) n before (ap result_err here)

-- the first fault
pub first_fault_at : {A E : Type 0} (f : ℕ → Result A E) (k n : ℕ) (e : E) → k < n → first_of k (λ i. result_err (f i)) ≡ None → f k ≡ Err e → first_of n (λ i. result_err (f i)) ≡ Some e
first_fault_at f k n e within before here = first_at (λ i. result_err (f i)) k n e within before (ap result_err here)

-- none so far, and not the next
pub none_holds : (f : ℕ → Bool) (n : ℕ) → any_below n f ≡ false → f n ≡ false → any_below (n + 1) f ≡ false
none_holds f n before here = rw (add-one, before, here) refl

or_true : (b : Bool) → (b || true) ≡ true
or_true true = refl
or_true false = refl

-- one that holds
pub one_holds : (f : ℕ → Bool) (k n : ℕ) → k < n → f k ≡ true → any_below n f ≡ true
one_holds f k zero within here = absurd (omega arith)
one_holds f k (suc n) within here =
    below_more (λ (i : ℕ). f i ≡ true → any_below (suc n) f ≡ true) n
    (λ i below there. rw (one_holds f i n below there) refl)
    (λ there. rw there (or_true (any_below n f)))
    k (omega arith) here

-- tests that agree
pub any_same : (f h : ℕ → Bool) (n : ℕ) → ((k : ℕ) → k < n → f k ≡ h k) → any_below n f ≡ any_below n h
any_same f h zero same = refl
any_same f h (suc n) same = rw (any_same f h n (λ k below. same k (omega arith)), same n (omega arith)) refl

-- lists of the same numbers
pub listed-same : (f h : ℕ → ℕ) (n : ℕ) → ((k : ℕ) → k < n → f k ≡ h k) → listed n f ≡ listed n h
listed-same f h zero same = refl
listed-same f h (suc n) same = rw (listed-same f h n (λ k below. same k (omega arith)), same n (omega arith)) refl

-- one more of a list
pub listed-more : {A : Type 0} (f : ℕ → A) (n : ℕ) (x : A) (xs : List A) → xs ≡ listed n f → x ≡ f n → xs ++ x ∷ [] ≡ listed (n + 1) f
listed-more f n x xs before here = rw (add-one, before, here) refl

pub length-listed : {A : Type 0} (f : ℕ → A) (n : ℕ) → length (listed n f) ≡ n
length-listed f zero = refl
length-listed f (suc n) = omega (arith, length-append (listed n f) (f n ∷ []), length-listed f n)

pub get-listed : {A : Type 0} (f : ℕ → A) (n k : ℕ) (d : A) → k < n → get_or (listed n f) k d ≡ f k
get-listed f zero k d within = absurd (omega arith)
get-listed {A} f (suc n) k d within =
    below_more (λ (i : ℕ). get_or (listed (suc n) f) i d ≡ f i) n
    (λ i below. let inside : i < length (listed n f) = omega (arith, length-listed f n) in get_or_append_left (listed n f) (f n ∷ []) d i inside ∙ get-listed f n i d below)
    (get_or_push (listed n f) (f n) d n (length-listed f n))
    k (omega arith)
