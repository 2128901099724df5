-- Products over a walk in many words: what they are after each step, and that there is room for the next one.
use Rattle.std.proofs.Common.{◌≡◌, ◌<◌, ◌≤◌, ◌↔◌, ◌+◌, ◌*◌, ◌-◌, ◌^◌, ℕ, zero, suc, Bool, IsTrue, List, [], ◌∷◌, length, take, slice_index, refl, sym, ap, subst, ◌∙◌, arith, add-one}
use Rattle.std.proofs.Math.Nat.{pow-succ', pow-zero}
use Rattle.std.proofs.Math.Pow.{pow-lt}
use Rattle.std.proofs.lemmas.Nat.{mul-le, pow-add}
use Rattle.std.proofs.lemmas.List.{take_all}
use Rattle.rp_clauses.proofs.WalkProducts.{product_more}
use Rattle.rp_evidence.specs.Homothetic.{walk_product}
use Rattle.rp_fit.specs.HomotheticLevel.{step_count}
use Rattle.rp_many_words.specs.ManyWords.{value_of_words}

-- ---- room

power_of_words : (len : ℕ) → (2 ^ 64) ^ len ≡ 2 ^ (64 * len)
power_of_words zero = pow-zero (2 ^ 64)
power_of_words (suc len) =
    let e : 64 + 64 * len ≡ 64 * suc len = omega arith in
    rw (pow-succ' (2 ^ 64) len, power_of_words len) (sym (pow-add 2 64 (64 * len)) ∙ ap (λ z. 2 ^ z) e)

below_room : (v b len : ℕ) → v ≤ 2 ^ b → b < 64 * len → v < (2 ^ 64) ^ len
below_room v b len l m = let p = pow-lt m in rw (power_of_words len) (omega (arith, l, p))

grown : (v a x b : ℕ) → v ≤ 2 ^ a → x ≤ 2 ^ b → v * x ≤ 2 ^ (a + b)
grown v a x b l m = rw (pow-add 2 a b) (mul-le v x (2 ^ a) (2 ^ b) l m)

-- ---- one step

pub record AreWordsOf (f : ℕ → ℕ → ℕ) (by : ℕ) (walk words : List ℕ) (k : ℕ) : Type 0 where
  pub value : value_of_words words ≡ by ^ k * walk_product f (take (k + 1) walk)
  pub small : value_of_words words ≤ 2 ^ (91 * k)

one_entry : (f : ℕ → ℕ → ℕ) (walk : List ℕ) → walk_product f (take (0 + 1) walk) ≡ 1
one_entry f [] = refl
one_entry f (t ∷ rest) = refl

pub words_of_no_step : (f : ℕ → ℕ → ℕ) (by : ℕ) (walk words : List ℕ) → value_of_words words ≡ 1 → AreWordsOf f by walk words 0
words_of_no_step f by walk words is = record {
  value = rw (one_entry f walk, pow-zero by) (omega (arith, is));
  small = omega (arith, is);
}

module _ (f : ℕ → ℕ → ℕ) (by : ℕ) (walk words : List ℕ) (k : ℕ) (small_by : by ≤ 2 ^ 40) (few : k < 512) (so_far : AreWordsOf f by walk words k) where
  half : value_of_words words * by ≤ 2 ^ (91 * k + 40)
  half = grown (value_of_words words) (91 * k) by 40 so_far.small small_by

  pub room_for_part : (len : ℕ) → len ≡ 729 → value_of_words words * by < (2 ^ 64) ^ len
  room_for_part len is = below_room (value_of_words words * by) (91 * k + 40) len half (omega (arith, is, few))

  module _ (mid : List ℕ) (cost : ℕ) (is_mid : value_of_words mid ≡ value_of_words words * by) (small : cost < 2 ^ 51) where
    whole : value_of_words mid * cost ≤ 2 ^ (91 * k + 40 + 51)
    whole = grown (value_of_words mid) (91 * k + 40) cost 51 (rw is_mid half) (omega (arith, small))

    pub room_for_cost : (len : ℕ) → len ≡ 729 → value_of_words mid * cost < (2 ^ 64) ^ len
    room_for_cost len is = below_room (value_of_words mid * cost) (91 * k + 40 + 51) len whole (omega (arith, is, few))

    pub words_of_one_more : (new : List ℕ) → k + 1 < length walk → value_of_words new ≡ value_of_words mid * cost → cost ≡ f (slice_index walk k) (slice_index walk (k + 1)) → AreWordsOf f by walk new (k + 1)
    words_of_one_more new within is_new is_cost =
        let e : 91 * k + 40 + 51 ≡ 91 * (k + 1) = omega arith in
        record {
          value = is_new ∙ rw (is_mid, so_far.value, product_more f walk k within, is_cost, add-one, pow-succ' by k) (omega arith);
          small = rw (is_new, ← e) whole;
        }

-- ---- the whole walk

pub words_of_walk : (f : ℕ → ℕ → ℕ) (by : ℕ) (walk words : List ℕ) (k : ℕ) → k ≡ length walk - 1 → AreWordsOf f by walk words k → value_of_words words ≡ by ^ step_count walk * walk_product f walk
words_of_walk f by walk words k all done =
    let e : take (k + 1) walk ≡ walk = take_all (k + 1) walk (omega (arith, all)) in
    subst (λ w. value_of_words words ≡ by ^ step_count walk * walk_product f w) e (subst (λ j. value_of_words words ≡ by ^ j * walk_product f (take (k + 1) walk)) all done.value)

-- ---- products of two words

pub same_products : (r : Bool) (to low own value next there here own' next' : ℕ) → there ≡ to * low → here ≡ value * next' → own' ≡ own → next' ≡ next
    → (IsTrue r ↔ (there * own' ≤ here * 2 ^ 40)) → (IsTrue r ↔ ((to * low) * own ≤ (value * next) * 2 ^ 40))
same_products r to low own value next there here own' next' e f g h is = subst (λ z. IsTrue r ↔ ((to * low) * own ≤ (value * z) * 2 ^ 40)) h
    (subst (λ z. IsTrue r ↔ ((to * low) * z ≤ (value * next') * 2 ^ 40)) g (subst (λ z. IsTrue r ↔ (z * own' ≤ (value * next') * 2 ^ 40)) e (subst (λ z. IsTrue r ↔ (there * own' ≤ z * 2 ^ 40)) f is)))
