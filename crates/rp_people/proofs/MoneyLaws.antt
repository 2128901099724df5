-- A function that rationalizes with money bounds what each step adds, so no closed walk has a negative sum. Numbers that
-- bound every step are an Afriat model whose multipliers are 1; its utility rationalizes with money. They exist where no
-- closed walk has a negative sum.
use borrow.Author.Differences.{up, down}
use Rattle.std.proofs.Common.{◌≡◌, ℕ, ◌+◌, ◌*◌, ◌<◌, ◌≤◌, ◌⊎◌, inl, inr, List, [], ◌∷◌, ap, refl, sym, subst, arith}
use Rattle.std.proofs.lemmas.Int.{by_lt_z, ints}
use Rattle.std.proofs.Math.Nat.{le_of_mul-le-mul_left, mul-le-mul_left}
use Rattle.std.specs.Prelude.{ℤ, pos, ◌+ℤ◌, ◌-ℤ◌, ◌*ℤ◌, ◌<ℤ◌, ◌≤ℤ◌}
use Rattle.rp_table.specs.Spending.{spending}
use Rattle.rp_evidence.specs.Demand.{FractionBundle}
use Rattle.rp_evidence.specs.Input.{TableInput}
use Rattle.rp_evidence.specs.Quasilinear.{MeetsQuasilinearTest, step_sum, sum_from}
use Rattle.rp_evidence.specs.Walk.{AnyStep, LeadsTo}
use Rattle.rp_evidence.specs.WelfareModels.{bundle_at}
use Rattle.rp_evidence.proofs.Walks.{starts_below}
use Rattle.rp_people.specs.AfriatUtility.{IsModelOfChoices, IsUtilityOfNumbers}
use Rattle.rp_people.specs.Fractions.{SignedFraction}
use Rattle.rp_people.specs.Money.{HasConcaveWorth, RationalizesWithMoney}
use Rattle.rp_people.specs.TableChoices.{IsFullInput, choices_at}
use Rattle.rp_people.proofs.AfriatUtilities.{IsMultiple, chosen_at_least, have_utility, multiple_exists}
use Rattle.rp_people.proofs.Differences.{at_most_by, at_most_on, at_most_parts, by_itself, is_times, less_is, of_whole, sum_is, times_is}
use Rattle.rp_people.proofs.Potentials.{AreWeights, along, potentials}
use Rattle.rp_people.proofs.TableLaws.{are_choices}

-- ---- from a function to the test

module _ (input : TableInput) (worth : FractionBundle → SignedFraction) (rationalizes : RationalizesWithMoney (choices_at input 1 1) worth) where
  abbrev chosen : ℕ → SignedFraction
  chosen s = worth (bundle_at input s)

  chosen_positive : (s : ℕ) → s < input.n → 0 < (chosen s).den
  chosen_positive s l = rationalizes.fraction (bundle_at input s) (omega arith)

  module _ (common : ℕ) (times : ℕ → ℕ) (multiple : IsMultiple input.n (λ s. (chosen s).den) common times) where
    -- what the bundle of s is worth, over the common denominator: a difference of two numbers
    abbrev above : ℕ → ℕ
    above s = times s * up (chosen s).num

    abbrev below : ℕ → ℕ
    below s = times s * down (chosen s).num

    by_step : (t s : ℕ) → t < input.n → s < input.n → above s + below t + common * input.cost t t ≤ above t + below s + common * input.cost t s
    by_step t s a b =
        bounded (up (chosen s).num) (down (chosen s).num) (chosen s).den (times s) (up (chosen t).num) (down (chosen t).num) (chosen t).den (times t) common (input.cost t s) (input.cost t t)
        multiple.positive (multiple.each s b) (multiple.each t a)
        (parts (chosen s).num (chosen t).num (chosen s).den (chosen t).den (input.cost t s) (input.cost t t)
        (subst (λ c. ((((chosen s).num *ℤ pos 1) -ℤ (pos c *ℤ pos (chosen s).den)) *ℤ pos ((chosen t).den * 1)) ≤ℤ ((((chosen t).num *ℤ pos 1) -ℤ (pos (input.cost t t) *ℤ pos (chosen t).den)) *ℤ pos ((chosen s).den * 1))) (sym (input.sums t s a b))
        (subst (λ c. ((((chosen s).num *ℤ pos 1) -ℤ (pos (spending input.goods (input.price t) (input.quantity s)) *ℤ pos (chosen s).den)) *ℤ pos ((chosen t).den * 1)) ≤ℤ ((((chosen t).num *ℤ pos 1) -ℤ (pos c *ℤ pos (chosen t).den)) *ℤ pos ((chosen s).den * 1))) (sym (input.sums t t a a))
        (rationalizes.none_gains_more t (bundle_at input s) a (omega arith)))))
      where
        parts : (v w : ℤ) (d e p q : ℕ) → (((v *ℤ pos 1) -ℤ (pos p *ℤ pos d)) *ℤ pos (e * 1)) ≤ℤ (((w *ℤ pos 1) -ℤ (pos q *ℤ pos e)) *ℤ pos (d * 1)) → up v * e + q * e * d + down w * d ≤ up w * d + p * d * e + down v * e
        parts v w d e p q h =
            let l = at_most_parts (((v *ℤ pos 1) -ℤ (pos p *ℤ pos d)) *ℤ pos (e * 1)) (((w *ℤ pos 1) -ℤ (pos q *ℤ pos e)) *ℤ pos (d * 1)) ((up v * 1 + 0 * d) * (e * 1)) ((down v * 1 + p * d) * (e * 1)) ((up w * 1 + 0 * e) * (d * 1)) ((down w * 1 + q * e) * (d * 1))
            (is_times ((v *ℤ pos 1) -ℤ (pos p *ℤ pos d)) (e * 1) (up v * 1 + 0 * d) (down v * 1 + p * d) (less_is (v *ℤ pos 1) (pos p *ℤ pos d) (up v * 1) (down v * 1) (p * d) (0 * d) (is_times v 1 (up v) (down v) (by_itself v)) (is_times (pos p) d p 0 (of_whole p))))
            (is_times ((w *ℤ pos 1) -ℤ (pos q *ℤ pos e)) (d * 1) (up w * 1 + 0 * e) (down w * 1 + q * e) (less_is (w *ℤ pos 1) (pos q *ℤ pos e) (up w * 1) (down w * 1) (q * e) (0 * e) (is_times w 1 (up w) (down w) (by_itself w)) (is_times (pos q) e q 0 (of_whole q)))) h in
            omega arith

        bounded : (us ds d j ut dt e k common p q : ℕ) → 0 < common → j * d ≡ common → k * e ≡ common → us * e + q * e * d + dt * d ≤ ut * d + p * d * e + ds * e → j * us + k * dt + common * q ≤ k * ut + j * ds + common * p
        bounded us ds d j ut dt e k common p q some js kt h =
            let m : (j * k) * (us * e + q * e * d + dt * d) ≤ (j * k) * (ut * d + p * d * e + ds * e) = mul-le-mul_left (j * k) h in
            let a = ap (λ z. (j * us) * z) kt in
            let b = ap (λ z. (k * dt) * z) js in
            let c = ap (λ z. (k * ut) * z) js in
            let f = ap (λ z. (j * ds) * z) kt in
            let g = ap (λ z. (q * z) * (k * e)) js in
            let g' = ap (λ z. (q * common) * z) kt in
            let i = ap (λ z. (p * z) * (k * e)) js in
            let i' = ap (λ z. (p * common) * z) kt in
            le_of_mul-le-mul_left {k = common} (omega arith) some

    along_walk : (t s : ℕ) (w : List ℕ) → LeadsTo input.n AnyStep t s w → above s + below t + common * down (sum_from input.cost t w) ≤ above t + below s + common * up (sum_from input.cost t w)
    along_walk t s [] h = ends t s h.1
      where
        ends : (t s : ℕ) → t ≡ s → above s + below t + common * down (pos 0) ≤ above t + below s + common * up (pos 0)
        ends t s e = subst (λ z. above z + below t + common * down (pos 0) ≤ above t + below z + common * up (pos 0)) e (omega (arith, ints))
    along_walk t s (x ∷ w) h =
        let b = starts_below input.n AnyStep x s w h.2 in
        let later = along_walk x s w h.2 in
        let first = by_step t x h.0 b in
        let step = added (input.cost t x) (input.cost t t) (sum_from input.cost x w) in
        let times_step = ap (λ z. common * z) step in
        omega arith
      where
        added : (p q : ℕ) (z : ℤ) → up ((pos p -ℤ pos q) +ℤ z) + (q + down z) ≡ down ((pos p -ℤ pos q) +ℤ z) + (p + up z)
        added p q z = omega (arith, ints)

    no_negative_sum : (t : ℕ) (w : List ℕ) → LeadsTo input.n AnyStep t t w → ¬ (sum_from input.cost t w <ℤ pos 0)
    no_negative_sum t w h negative =
        let l = along_walk t t w h in
        let m : common * down (sum_from input.cost t w) ≤ common * up (sum_from input.cost t w) = omega arith in
        let k : down (sum_from input.cost t w) ≤ up (sum_from input.cost t w) = le_of_mul-le-mul_left {k = common} m multiple.positive in
        negative_parts (sum_from input.cost t w) negative k
      where
        negative_parts : (z : ℤ) → z <ℤ pos 0 → down z ≤ up z → ⊥
        negative_parts z a b = omega (arith, ints)

  pub worth_meets_test : MeetsQuasilinearTest input.n input.cost
  worth_meets_test [] cycle = cycle.closed.1
  worth_meets_test (x ∷ w) cycle =
      let r = multiple_exists input.n (λ s. (chosen s).den) chosen_positive in
      no_negative_sum r.0 r.1 r.2 x w (subst (λ z. LeadsTo input.n AnyStep x z w) (sym cycle.closed.1.0) cycle.closed.1.1) cycle.negative

-- ---- from numbers that bound every step to a function

-- no step leads to more than the number before it and what it adds
abbrev pub BoundEachStep : ℕ → (ℕ → ℕ → ℕ) → (ℕ → ℤ) → Type 0
BoundEachStep n c u = (t s : ℕ) → t < n → s < n → u s ≤ℤ (u t +ℤ step_sum c t s)

module _ (input : TableInput) (full : IsFullInput input) (u : ℕ → ℤ) (bound : BoundEachStep input.n input.cost u) where
  model_of_ones : IsModelOfChoices (choices_at input 1 1) u (λ s. 1)
  model_of_ones = record {
    at_least_one = λ s l. omega arith;
    none_above = λ s t a b.
        subst (λ c. (pos 1 *ℤ u t) ≤ℤ ((pos 1 *ℤ u s) +ℤ (pos 1 *ℤ (pos (1 * c) -ℤ pos (1 * (1 * input.cost s s)))))) (input.sums s t a b)
        (written (u t) (u s) (input.cost s t) (input.cost s s) (bound s t a b));
  }
    where
      written : (x y : ℤ) (p q : ℕ) → x ≤ℤ (y +ℤ (pos p -ℤ pos q)) → (pos 1 *ℤ x) ≤ℤ ((pos 1 *ℤ y) +ℤ (pos 1 *ℤ (pos (1 * p) -ℤ pos (1 * (1 * q)))))
      written x y p q h =
          let l = at_most_parts x (y +ℤ (pos p -ℤ pos q)) (up x) (down x) (up y + (p + 0)) (down y + (0 + q)) (by_itself x) (sum_is y (pos p -ℤ pos q) (up y) (down y) (p + 0) (0 + q) (by_itself y) (less_is (pos p) (pos q) p 0 q 0 (of_whole p) (of_whole q))) h in
          at_most_by (pos 1 *ℤ x) ((pos 1 *ℤ y) +ℤ (pos 1 *ℤ (pos (1 * p) -ℤ pos (1 * (1 * q))))) (1 * up x) (1 * down x) (1 * up y + 1 * (1 * p + 0)) (1 * down y + 1 * (0 + 1 * (1 * q)))
          (times_is 1 x (up x) (down x) (by_itself x))
          (sum_is (pos 1 *ℤ y) (pos 1 *ℤ (pos (1 * p) -ℤ pos (1 * (1 * q)))) (1 * up y) (1 * down y) (1 * (1 * p + 0)) (1 * (0 + 1 * (1 * q))) (times_is 1 y (up y) (down y) (by_itself y))
          (times_is 1 (pos (1 * p) -ℤ pos (1 * (1 * q))) (1 * p + 0) (0 + 1 * (1 * q)) (less_is (pos (1 * p)) (pos (1 * (1 * q))) (1 * p) 0 (1 * (1 * q)) 0 (of_whole (1 * p)) (of_whole (1 * (1 * q)))))) (omega arith)

  rationalizes_with_money : (utility : FractionBundle → SignedFraction) → IsUtilityOfNumbers (choices_at input 1 1) u (λ s. 1) utility → RationalizesWithMoney (choices_at input 1 1) utility
  rationalizes_with_money utility is = record {
    fraction = λ x ix. subst (λ d. 0 < d) (sym (is.over x ix)) ix;
    none_gains_more = λ s x l ix.
        let y = bundle_at input s in
        let value = (is.least x ix).least s l in
        let own = chosen_at_least (choices_at input 1 1) (are_choices input full 1 (λ r. 1 * input.cost r r) (omega arith)) u (λ r. 1) (λ r k. omega arith) model_of_ones utility is s l in
        gains (utility x).num (utility y).num (u s) x.den (utility x).den (utility y).den (spending input.goods (input.price s) x.num) (spending input.goods (input.price s) (input.quantity s)) (input.cost s s)
        (is.over x ix) (is.over y (omega arith)) (input.sums s s l l) value own;
  }
    where
      gains : (v w z : ℤ) (d e f p q k : ℕ) → e ≡ d → f ≡ 1 → k ≡ q → v ≤ℤ ((pos d *ℤ z) +ℤ (pos 1 *ℤ (pos (1 * p) -ℤ pos (d * (1 * k))))) → (pos 1 *ℤ z) ≤ℤ w
          → (((v *ℤ pos d) -ℤ (pos p *ℤ pos e)) *ℤ pos (f * 1)) ≤ℤ (((w *ℤ pos 1) -ℤ (pos q *ℤ pos f)) *ℤ pos (e * d))
      gains v w z d e f p q k same_e same_f same_k h own =
          subst (λ g. (((v *ℤ pos d) -ℤ (pos p *ℤ pos g)) *ℤ pos (f * 1)) ≤ℤ (((w *ℤ pos 1) -ℤ (pos q *ℤ pos f)) *ℤ pos (g * d))) (sym same_e)
          (subst (λ g. (((v *ℤ pos d) -ℤ (pos p *ℤ pos d)) *ℤ pos (g * 1)) ≤ℤ (((w *ℤ pos 1) -ℤ (pos q *ℤ pos g)) *ℤ pos (d * d))) (sym same_f)
          (gained v w z d p q (subst (λ g. v ≤ℤ ((pos d *ℤ z) +ℤ (pos 1 *ℤ (pos (1 * p) -ℤ pos (d * (1 * g)))))) same_k h) own))
        where
          gained : (v w z : ℤ) (d p q : ℕ) → v ≤ℤ ((pos d *ℤ z) +ℤ (pos 1 *ℤ (pos (1 * p) -ℤ pos (d * (1 * q))))) → (pos 1 *ℤ z) ≤ℤ w
              → (((v *ℤ pos d) -ℤ (pos p *ℤ pos d)) *ℤ pos (1 * 1)) ≤ℤ (((w *ℤ pos 1) -ℤ (pos q *ℤ pos 1)) *ℤ pos (d * d))
          gained v w z d p q h own =
              let l = at_most_parts v ((pos d *ℤ z) +ℤ (pos 1 *ℤ (pos (1 * p) -ℤ pos (d * (1 * q))))) (up v) (down v) (d * up z + 1 * (1 * p + 0)) (d * down z + 1 * (0 + d * (1 * q))) (by_itself v)
              (sum_is (pos d *ℤ z) (pos 1 *ℤ (pos (1 * p) -ℤ pos (d * (1 * q)))) (d * up z) (d * down z) (1 * (1 * p + 0)) (1 * (0 + d * (1 * q))) (times_is d z (up z) (down z) (by_itself z))
              (times_is 1 (pos (1 * p) -ℤ pos (d * (1 * q))) (1 * p + 0) (0 + d * (1 * q)) (less_is (pos (1 * p)) (pos (d * (1 * q))) (1 * p) 0 (d * (1 * q)) 0 (of_whole (1 * p)) (of_whole (d * (1 * q)))))) h in
              let m = at_most_parts (pos 1 *ℤ z) w (1 * up z) (1 * down z) (up w) (down w) (times_is 1 z (up z) (down z) (by_itself z)) (by_itself w) own in
              let dl : d * (up v + (d * down z + 1 * (0 + d * (1 * q)))) ≤ d * ((d * up z + 1 * (1 * p + 0)) + down v) = mul-le-mul_left d l in
              let ddm : (d * d) * (1 * up z + down w) ≤ (d * d) * (up w + 1 * down z) = mul-le-mul_left (d * d) m in
              at_most_by (((v *ℤ pos d) -ℤ (pos p *ℤ pos d)) *ℤ pos (1 * 1)) (((w *ℤ pos 1) -ℤ (pos q *ℤ pos 1)) *ℤ pos (d * d)) ((up v * d + 0 * d) * (1 * 1)) ((down v * d + p * d) * (1 * 1)) ((up w * 1 + 0 * 1) * (d * d)) ((down w * 1 + q * 1) * (d * d))
              (is_times ((v *ℤ pos d) -ℤ (pos p *ℤ pos d)) (1 * 1) (up v * d + 0 * d) (down v * d + p * d) (less_is (v *ℤ pos d) (pos p *ℤ pos d) (up v * d) (down v * d) (p * d) (0 * d) (is_times v d (up v) (down v) (by_itself v)) (is_times (pos p) d p 0 (of_whole p))))
              (is_times ((w *ℤ pos 1) -ℤ (pos q *ℤ pos 1)) (d * d) (up w * 1 + 0 * 1) (down w * 1 + q * 1) (less_is (w *ℤ pos 1) (pos q *ℤ pos 1) (up w * 1) (down w * 1) (q * 1) (0 * 1) (is_times w 1 (up w) (down w) (by_itself w)) (is_times (pos q) 1 q 0 (of_whole q)))) (omega arith)

  pub numbers_give_worth : HasConcaveWorth (choices_at input 1 1)
  numbers_give_worth =
      let has = have_utility (choices_at input 1 1) (are_choices input full 1 (λ r. 1 * input.cost r r) (omega arith)) u (λ s. 1) (λ s l. omega arith) model_of_ones in
      record { worth = has.utility; concave_utility = has.concave_utility; rationalizes = rationalizes_with_money has.utility has.of_numbers }

-- ---- such numbers exist

wholes : AreWeights ℤ (λ x y. x ≤ℤ y) (λ x y. x +ℤ y) (pos 0)
wholes = record {
  either = λ x y. by_lt_z {P = (x ≤ℤ y) ⊎ (y ≤ℤ x)} x y (λ l. inl (weaker x y l)) (λ l. inr l);
  through = at_most_on;
  both = at_most_sum_of;
  to_left = left;
  to_right = right;
  none_before = before;
  none_after = after;
  after_none = back;
}
  where
    weaker : (x y : ℤ) → x <ℤ y → x ≤ℤ y
    weaker x y l = omega (arith, ints)

    at_most_sum_of : (x y z w : ℤ) → x ≤ℤ y → z ≤ℤ w → (x +ℤ z) ≤ℤ (y +ℤ w)
    at_most_sum_of x y z w a b = omega (arith, ints)

    left : (x y z : ℤ) → (x +ℤ (y +ℤ z)) ≤ℤ ((x +ℤ y) +ℤ z)
    left x y z = omega (arith, ints)

    right : (x y z : ℤ) → ((x +ℤ y) +ℤ z) ≤ℤ (x +ℤ (y +ℤ z))
    right x y z = omega (arith, ints)

    before : (x : ℤ) → x ≤ℤ (pos 0 +ℤ x)
    before x = omega (arith, ints)

    after : (x : ℤ) → x ≤ℤ (x +ℤ pos 0)
    after x = omega (arith, ints)

    back : (x : ℤ) → (x +ℤ pos 0) ≤ℤ x
    back x = omega (arith, ints)

module _ (n : ℕ) (c : ℕ → ℕ → ℕ) where
  along_is : (t : ℕ) (w : List ℕ) → along ℤ (λ x y. x ≤ℤ y) (λ x y. x +ℤ y) (pos 0) wholes (step_sum c) t w ≡ sum_from c t w
  along_is t [] = refl
  along_is t (s ∷ w) = ap (λ z. step_sum c t s +ℤ z) (along_is s w)

  never_falls : MeetsQuasilinearTest n c → (s x : ℕ) (w : List ℕ) → LeadsTo n AnyStep s s (x ∷ w) → pos 0 ≤ℤ along ℤ (λ x y. x ≤ℤ y) (λ x y. x +ℤ y) (pos 0) wholes (step_sum c) s (x ∷ w)
  never_falls holds s x w h =
      subst (λ z. pos 0 ≤ℤ z) (sym (along_is s (x ∷ w)))
      (by_lt_z {P = pos 0 ≤ℤ sum_from c s (x ∷ w)} (sum_from c s (x ∷ w)) (pos 0)
      (λ l. absurd (holds (s ∷ x ∷ w) (record { closed = (s, (refl, h), omega arith); negative = l }))) (λ l. l))

  pub numbers_exist : 1 ≤ n → MeetsQuasilinearTest n c → (u : ℕ → ℤ) × BoundEachStep n c u
  numbers_exist some holds =
      potentials ℤ (λ x y. x ≤ℤ y) (λ x y. x +ℤ y) (pos 0) wholes (step_sum c) n (never_falls holds) some
