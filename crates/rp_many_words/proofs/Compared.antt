-- Of two numbers the highest words that differ decide.
use Rattle.std.proofs.Common.{◌≡◌, ◌<◌, ◌≤◌, ◌↔◌, ◌⊎◌, ◌+◌, ◌*◌, ◌^◌, ℕ, suc, List, length, take, get_or, inl, inr, arith, add-one, IsTrue, Bool}
use Rattle.std.proofs.lemmas.Bool.{cases_eq}
use Rattle.std.proofs.Math.Nat.{pow-succ', mul-le-mul_left}
use Rattle.rp_many_words.specs.ManyWords.{value_of_words}
use Rattle.rp_many_words.proofs.FirstWords.{one_more_word}

-- the first k words are numbers below the base to the power k, and the truth value says whether one is at most the other
pub record IsComparedTo (a b : List ℕ) (at_most : Bool) (k : ℕ) : Type 0 where
  pub below_a : value_of_words (take k a) < (2 ^ 64) ^ k
  pub below_b : value_of_words (take k b) < (2 ^ 64) ^ k
  pub order : IsTrue at_most ↔ (value_of_words (take k a) ≤ value_of_words (take k b))

-- a digit below the base, with a number below p before it
stays_below : (p v x : ℕ) → v < p → x < 2 ^ 64 → v + p * x < 2 ^ 64 * p
stays_below p v x less digit =
    let m : p * (x + 1) ≤ p * 2 ^ 64 = mul-le-mul_left p (omega (arith, digit)) in
    omega (arith, less, m)

less_digit : (p v w x y : ℕ) → v < p → x < y → v + p * x ≤ w + p * y
less_digit p v w x y less digit =
    let m : p * (x + 1) ≤ p * y = mul-le-mul_left p (omega (arith, digit)) in
    omega (arith, less, m)

more_digit : (p v w x y : ℕ) → w < p → y < x → ¬ (v + p * x ≤ w + p * y)
more_digit p v w x y less digit l =
    let m : p * (y + 1) ≤ p * x = mul-le-mul_left p (omega (arith, digit)) in
    absurd (omega (arith, less, m, l))

module _ (a b : List ℕ) (k : ℕ) (within_a : k < length a) (within_b : k < length b) (small_a : get_or a k 0 < 2 ^ 64) (small_b : get_or b k 0 < 2 ^ 64) where
  next : (at_most new : Bool) → IsComparedTo a b at_most k
      → (IsTrue new ↔ (value_of_words (take k a) + (2 ^ 64) ^ k * get_or a k 0 ≤ value_of_words (take k b) + (2 ^ 64) ^ k * get_or b k 0)) → IsComparedTo a b new (k + 1)
  next at_most new so_far order = record {
    below_a = rw (one_more_word a k 0 within_a, add-one, pow-succ' (2 ^ 64) k) (stays_below ((2 ^ 64) ^ k) (value_of_words (take k a)) (get_or a k 0) so_far.below_a small_a);
    below_b = rw (one_more_word b k 0 within_b, add-one, pow-succ' (2 ^ 64) k) (stays_below ((2 ^ 64) ^ k) (value_of_words (take k b)) (get_or b k 0) so_far.below_b small_b);
    order = rw (one_more_word a k 0 within_a, one_more_word b k 0 within_b) order;
  }

  abbrev AtMost : Type 0
  AtMost = value_of_words (take k a) + (2 ^ 64) ^ k * get_or a k 0 ≤ value_of_words (take k b) + (2 ^ 64) ^ k * get_or b k 0

  abbrev Decides : Bool → Type 0
  Decides at_most = (get_or a k 0 < get_or b k 0) ⊎ ((get_or a k 0 ≡ get_or b k 0) × IsTrue at_most)

  decided : (at_most : Bool) → IsComparedTo a b at_most k → Decides at_most → AtMost
  decided at_most so_far (inl l) = less_digit ((2 ^ 64) ^ k) (value_of_words (take k a)) (value_of_words (take k b)) (get_or a k 0) (get_or b k 0) so_far.below_a l
  decided at_most so_far (inr same) = let l = so_far.order.0 same.1 in rw same.0 (omega (arith, l))

  decides : (at_most : Bool) → IsComparedTo a b at_most k → AtMost → Decides at_most
  decides at_most so_far l = go (cases_eq (get_or a k 0) (get_or b k 0))
    where
      not_more : ¬ (get_or b k 0 < get_or a k 0)
      not_more m = more_digit ((2 ^ 64) ^ k) (value_of_words (take k a)) (value_of_words (take k b)) (get_or a k 0) (get_or b k 0) so_far.below_b m l

      go : (get_or a k 0 ≡ get_or b k 0) ⊎ (¬ (get_or a k 0 ≡ get_or b k 0)) → Decides at_most
      go (inl same) = let m = rw same at l in inr (same, so_far.order.1 (omega (arith, m)))
      go (inr differ) = inl (omega (arith, differ, not_more))

  pub one_more_compared : (at_most new : Bool) → (IsTrue new ↔ Decides at_most) → IsComparedTo a b at_most k → IsComparedTo a b new (k + 1)
  one_more_compared at_most new is so_far =
      next at_most new so_far ((λ t. decided at_most so_far (is.0 t)), (λ l. is.1 (decides at_most so_far l)))
