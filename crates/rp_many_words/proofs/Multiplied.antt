-- The words before a place are multiplied, and a word is carried; the others are as they were.
use Rattle.std.proofs.Common.{◌≡◌, ◌≢◌, ◌<◌, ◌≤◌, ◌+◌, ◌*◌, ◌^◌, ℕ, zero, suc, List, [], ◌∷◌, length, take, get_or, set, arith, ap, add-one, sym, subst, ◌∙◌}
use Rattle.std.proofs.Math.Nat.{pow-succ', pow-zero, mul-le-mul_left}
use Rattle.std.proofs.lemmas.List.{get_or-set_same, get_or-set_other, length-set, take-set, take_all}
use Rattle.rp_many_words.specs.ManyWords.{value_of_words}
use Rattle.rp_many_words.proofs.FirstWords.{one_more_word}

pub record IsMultipliedTo (old now : List ℕ) (by carry k : ℕ) : Type 0 where
  pub long : length now ≡ length old
  pub done : value_of_words (take k now) + (2 ^ 64) ^ k * carry ≡ value_of_words (take k old) * by
  pub left : (v : ℕ) → k ≤ v → get_or now v 0 ≡ get_or old v 0

pub nothing_multiplied : (old : List ℕ) (by : ℕ) → IsMultipliedTo old old by 0 0
nothing_multiplied old by = record { long = omega arith; done = omega arith; left = λ v l. ap (λ z. get_or z v 0) (sym (sym (λ i. old))) }

-- one digit: p is the base to the power of the place
digit : (p v w carry by low high x : ℕ) → v + p * carry ≡ w * by → low + 2 ^ 64 * high ≡ x * by + carry → (v + p * low) + (2 ^ 64 * p) * high ≡ (w + p * x) * by
digit p v w carry by low high x so_far e = let d = ap (λ z. p * z) e in omega (arith, so_far, d)

pub one_more_multiplied : (old now : List ℕ) (by carry k low high : ℕ) → k < length old → IsMultipliedTo old now by carry k
    → low + 2 ^ 64 * high ≡ get_or now k 0 * by + carry → IsMultipliedTo old (set now k low) by high (k + 1)
one_more_multiplied old now by carry k low high within so_far e =
    let within_now : k < length now = omega (arith, within, so_far.long) in
    let longer = length-set now k low in
    record {
      long = longer ∙ so_far.long;
      done = rw (one_more_word (set now k low) k 0 (omega (arith, longer, within_now)), take-set now k low, get_or-set_same now k low 0 within_now, one_more_word old k 0 within, add-one, pow-succ' (2 ^ 64) k)
          (digit ((2 ^ 64) ^ k) (value_of_words (take k now)) (value_of_words (take k old)) carry by low high (get_or old k 0) so_far.done
          (subst (λ z. low + 2 ^ 64 * high ≡ z * by + carry) (so_far.left k (omega arith)) e));
      left = λ v l. get_or-set_other now k v low 0 (λ same. absurd (omega (arith, same, l))) ∙ so_far.left v (omega (arith, l));
    }

-- at the end nothing is carried
no_carry : (v p carry product : ℕ) → v + p * carry ≡ product → product < p → v ≡ product
no_carry v p zero product e less = omega (arith, e)
no_carry v p (suc carry) product e less = absurd (omega (arith, e, less))

pub all_multiplied : (old now : List ℕ) (by carry k : ℕ) → k ≡ length old → IsMultipliedTo old now by carry k → value_of_words old * by < (2 ^ 64) ^ length old → value_of_words now ≡ value_of_words old * by
all_multiplied old now by carry k all done fits =
    no_carry (value_of_words now) ((2 ^ 64) ^ length old) carry (value_of_words old * by)
    (subst (λ z. value_of_words z + (2 ^ 64) ^ length old * carry ≡ value_of_words old * by) (take_all (length old) now (omega (arith, done.long)))
    (subst (λ z. value_of_words (take (length old) now) + (2 ^ 64) ^ length old * carry ≡ value_of_words z * by) (take_all (length old) old (omega arith))
    (subst (λ z. value_of_words (take z now) + (2 ^ 64) ^ z * carry ≡ value_of_words (take z old) * by) all done.done)))
    fits
