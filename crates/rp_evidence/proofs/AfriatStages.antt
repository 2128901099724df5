-- Standard numbers exist where the axiom holds: they are made class by class, from the highest.
use borrow.Author.Differences.{up, down}
use Rattle.std.proofs.Common.{◌≡◌, ℕ, zero, suc, ◌+◌, ◌-◌, ◌*◌, ◌<◌, ◌≤◌, ◌⊎◌, inl, inr, max, refl, sym, ap, subst, arith}
use Rattle.std.proofs.Math.Nat.{mul-le-mul_left}
use Rattle.std.proofs.lemmas.Bool.{cases_eq, cases_lt}
use Rattle.std.proofs.lemmas.Int.{by_lt_z, ints}
use Rattle.std.specs.Prelude.{ℤ, pos, ◌+ℤ◌, ◌*ℤ◌, ◌-ℤ◌, ◌<ℤ◌, ◌≤ℤ◌}
use Rattle.rp_evidence.specs.Afriat.{allowed_by}
use Rattle.rp_evidence.specs.StandardNumbers.{AreNumbersBy, IsClassUtilityBy, IsMultiplierBy}
use Rattle.rp_evidence.proofs.AfriatClasses.{AgreeAbove, AreStandardAbove, class_utility_same, some_higher, standard_above_same}
use Rattle.rp_evidence.proofs.AfriatSums.{allowed_parts}

-- ---- a multiplier, one observation after another

-- k is the least multiplier with which s allows t its utility
pub record IsNeeded (cost : ℕ → ℕ → ℕ) (own : ℕ → ℕ) (utility : ℕ → ℤ) (s t k : ℕ) : Type 0 where
  pub enough : utility t ≤ℤ allowed_by cost own utility (λ i. k) s t
  pub least : (j : ℕ) → utility t ≤ℤ allowed_by cost own utility (λ i. j) s t → k ≤ j

more_allows : (x y : ℤ) (j k a b : ℕ) → j ≤ k → b ≤ a → y ≤ℤ (x +ℤ (pos j *ℤ (pos a -ℤ pos b))) → y ≤ℤ (x +ℤ (pos k *ℤ (pos a -ℤ pos b)))
more_allows x y j k a b l g h =
    let p = allowed_parts x j a b in
    let q = allowed_parts x k a b in
    let r : (k - j) * b ≤ (k - j) * a = mul-le-mul_left (k - j) g in
    let ea = ap (λ (z : ℕ). z * a) (split j k l) in
    let eb = ap (λ (z : ℕ). z * b) (split j k l) in
    omega (arith, ints)
  where
    split : (j k : ℕ) → j ≤ k → j + (k - j) ≡ k
    split j k l = omega arith

module _ (cost : ℕ → ℕ → ℕ) (own count : ℕ → ℕ) (u : ℕ → ℤ) (s : ℕ) where
  pub multiplier_none : IsMultiplierBy 0 cost own count u s 1
  multiplier_none = record { at_least_one = omega arith; enough = λ t l. absurd (omega arith); least = λ j l h. l }

  pub multiplier_passed : (b k : ℕ) → count b ≤ count s → IsMultiplierBy b cost own count u s k → IsMultiplierBy (b + 1) cost own count u s k
  multiplier_passed b k l is = record {
    at_least_one = is.at_least_one;
    enough = λ t i h. elim (cases_eq t b) [
      | inl e ↦ absurd (omega (arith, h, subst (λ z. count z ≤ count s) (sym e) l))
      | inr d ↦ is.enough t (omega arith) h
    ];
    least = λ j i h. is.least j i (λ t a g. h t (omega arith) g);
  }

  pub multiplier_raised : (b k q : ℕ) → ((t : ℕ) → t < b + 1 → count s < count t → own s < cost s t) → count s < count b → IsMultiplierBy b cost own count u s k → IsNeeded cost own u s b q → IsMultiplierBy (b + 1) cost own count u s (max k q)
  multiplier_raised b k q positive l is needs = record {
    at_least_one = omega (arith, is.at_least_one);
    enough = λ t i h. elim (cases_eq t b) [
      | inl e ↦ subst (λ z. u z ≤ℤ allowed_by cost own u (λ i. max k q) s z) (sym e)
          (more_allows (u s) (u b) q (max k q) (cost s b) (own s) (omega arith) (omega (arith, positive b (omega arith) l)) needs.enough)
      | inr d ↦ more_allows (u s) (u t) k (max k q) (cost s t) (own s) (omega arith) (omega (arith, positive t i h)) (is.enough t (omega arith) h)
    ];
    least = λ j i h. let x = is.least j i (λ t a g. h t (omega arith) g) in let y = needs.least j (h b (omega arith) l) in omega arith;
  }

-- ---- which exists, because each such divisor is above 0

-- the least number from z on that meets P, where z + fuel does
least_from : (P : ℕ → Type 0) (fuel z : ℕ) → ((k : ℕ) → P k ⊎ ¬ P k) → ((j : ℕ) → P j → z ≤ j) → P (z + fuel) → (k : ℕ) × P k × ((j : ℕ) → P j → k ≤ j)
least_from P zero z decide none h = (z, subst P (same z) h, none)
  where
    same : (z : ℕ) → z + zero ≡ z
    same z = omega arith
least_from P (suc fuel) z decide none h =
    go (λ g. least_from P fuel (suc z) decide g (subst P (same z fuel) h)) (decide z)
  where
    same : (z fuel : ℕ) → z + suc fuel ≡ suc z + fuel
    same z fuel = omega arith

    go : (((j : ℕ) → P j → suc z ≤ j) → (k : ℕ) × P k × ((j : ℕ) → P j → k ≤ j)) → P z ⊎ ¬ P z → (k : ℕ) × P k × ((j : ℕ) → P j → k ≤ j)
    go later (inl here) = (z, here, none)
    go later (inr not) = later (λ j g. elim (cases_eq j z) [ inl e ↦ absurd (not (subst P e g)) | inr d ↦ let l = none j g in omega arith ])

at_most_or_not : (x y : ℤ) → (x ≤ℤ y) ⊎ ¬ (x ≤ℤ y)
at_most_or_not x y = by_lt_z {P = (x ≤ℤ y) ⊎ ¬ (x ≤ℤ y)} y x (λ l. inr (not l)) (λ l. inl l)
  where
    not : y <ℤ x → ¬ (x ≤ℤ y)
    not l h = omega (arith, ints)

needed : (cost : ℕ → ℕ → ℕ) (own : ℕ → ℕ) (u : ℕ → ℤ) (s t : ℕ) → own s < cost s t → (k : ℕ) × IsNeeded cost own u s t k
needed cost own u s t l =
    let r = least_from (λ k. u t ≤ℤ allowed_by cost own u (λ i. k) s t) (up (u t) + down (u s)) 0 (λ k. at_most_or_not (u t) (allowed_by cost own u (λ i. k) s t)) (λ j h. omega arith) (subst (λ k. u t ≤ℤ allowed_by cost own u (λ i. k) s t) (same (up (u t) + down (u s))) (much (u s) (u t) (cost s t) (own s) l)) in
    (r.0, record { enough = r.1; least = r.2 })
  where
    same : (z : ℕ) → z ≡ 0 + z
    same z = omega arith

    much : (x y : ℤ) (a b : ℕ) → b < a → y ≤ℤ (x +ℤ (pos (up y + down x) *ℤ (pos a -ℤ pos b)))
    much x y a b l =
        let p = allowed_parts x (up y + down x) a b in
        let q : (up y + down x) * suc b ≤ (up y + down x) * a = mul-le-mul_left (up y + down x) l in
        let e : (up y + down x) * suc b ≡ (up y + down x) * b + (up y + down x) = omega arith in
        omega (arith, ints)

pub multiplier_exists : (b : ℕ) (cost : ℕ → ℕ → ℕ) (own count : ℕ → ℕ) (u : ℕ → ℤ) (s : ℕ) → ((t : ℕ) → t < b → count s < count t → own s < cost s t) → (k : ℕ) × IsMultiplierBy b cost own count u s k
multiplier_exists zero cost own count u s positive = (1, multiplier_none cost own count u s)
multiplier_exists (suc b) cost own count u s positive =
    let before = multiplier_exists b cost own count u s (λ t l h. positive t (omega arith) h) in
    subst (λ z. (k : ℕ) × IsMultiplierBy z cost own count u s k) (same b) (go before.0 before.1 (cases_lt (count s) (count b)))
  where
    same : (b : ℕ) → b + 1 ≡ suc b
    same b = omega arith

    go : (k : ℕ) → IsMultiplierBy b cost own count u s k → (count s < count b) ⊎ (count b ≤ count s) → (k : ℕ) × IsMultiplierBy (b + 1) cost own count u s k
    go k is (inl l) =
        let q = needed cost own u s b (positive b (omega arith) l) in
        (max k q.0, multiplier_raised cost own count u s b k q.0 (λ t i h. positive t (omega arith) h) l is q.1)
    go k is (inr l) = (k, multiplier_passed cost own count u s b k l is)

-- ---- the utility of a class

pub least_of : (b : ℕ) (P : ℕ → Type 0) (f : ℕ → ℤ) → ((i : ℕ) → P i ⊎ ¬ P i) → ((i : ℕ) → i < b → ¬ P i) ⊎ ((i : ℕ) × (i < b) × P i × ((j : ℕ) → j < b → P j → f i ≤ℤ f j))
least_of zero P f decide = inl (λ i l. absurd (omega arith))
least_of (suc b) P f decide = go (least_of b P f decide) (decide b)
  where
    first : (i : ℕ) → P b → ((j : ℕ) → j < b → ¬ P j) → (j : ℕ) → j < suc b → P j → f b ≤ℤ f j
    first i here none j l h = elim (cases_eq j b) [
      | inl e ↦ subst (λ z. f b ≤ℤ f z) (sym e) (itself (f b))
      | inr d ↦ absurd (none j (omega arith) h)
    ]
      where
        itself : (x : ℤ) → x ≤ℤ x
        itself x = omega (arith, ints)

    both : (i : ℕ) → i < b → P i → ((j : ℕ) → j < b → P j → f i ≤ℤ f j) → P b → (f b ≤ℤ f i) ⊎ ¬ (f b ≤ℤ f i) → (i : ℕ) × (i < suc b) × P i × ((j : ℕ) → j < suc b → P j → f i ≤ℤ f j)
    both i l p least here (inl g) = (
      b,
      omega arith,
      here,
      λ j k h. elim (cases_eq j b) [
        | inl e ↦ subst (λ z. f b ≤ℤ f z) (sym e) (itself (f b))
        | inr d ↦ through (f b) (f i) (f j) g (least j (omega arith) h)
      ],
    )
      where
        itself : (x : ℤ) → x ≤ℤ x
        itself x = omega (arith, ints)

        through : (x y z : ℤ) → x ≤ℤ y → y ≤ℤ z → x ≤ℤ z
        through x y z a b = omega (arith, ints)
    both i l p least here (inr g) = (
      i,
      omega arith,
      p,
      λ j k h. elim (cases_eq j b) [
        | inl e ↦ subst (λ z. f i ≤ℤ f z) (sym e) (other (f b) (f i) g)
        | inr d ↦ least j (omega arith) h
      ],
    )
      where
        other : (x y : ℤ) → ¬ (x ≤ℤ y) → y ≤ℤ x
        other x y g = by_lt_z {P = y ≤ℤ x} x y (λ l. absurd (g (less x y l))) (λ l. l)
          where
            less : (x y : ℤ) → x <ℤ y → x ≤ℤ y
            less x y l = omega (arith, ints)

    go : ((i : ℕ) → i < b → ¬ P i) ⊎ ((i : ℕ) × (i < b) × P i × ((j : ℕ) → j < b → P j → f i ≤ℤ f j)) → P b ⊎ ¬ P b → ((i : ℕ) → i < suc b → ¬ P i) ⊎ ((i : ℕ) × (i < suc b) × P i × ((j : ℕ) → j < suc b → P j → f i ≤ℤ f j))
    go (inl none) (inl here) = inr (b, omega arith, here, first b here none)
    go (inl none) (inr not) = inl (λ i l h. elim (cases_eq i b) [ inl e ↦ not (subst P e h) | inr d ↦ none i (omega arith) h ])
    go (inr r) (inl here) = inr (both r.0 r.1 r.2 r.3 here (at_most_or_not (f b) (f r.0)))
    go (inr r) (inr not) = inr (r.0, omega (arith, r.1), r.2, λ j l h. elim (cases_eq j b) [ inl e ↦ absurd (not (subst P e h)) | inr d ↦ r.3 j (omega arith) h ])

module _ (n : ℕ) (cost : ℕ → ℕ → ℕ) (own count : ℕ → ℕ) (class : ℕ) (u : ℕ → ℤ) (m : ℕ → ℕ) where
  lowest_at : (h : ℕ) → h < n → class < count h → (t : ℕ) → (s : ℕ) × (s < n) × (class < count s) × ((j : ℕ) → j < n → class < count j → allowed_by cost own u m s t ≤ℤ allowed_by cost own u m j t)
  lowest_at h in_h above t = elim (least_of n (λ s. class < count s) (λ s. allowed_by cost own u m s t) (λ s. elim (cases_lt class (count s)) [ inl l ↦ inl l | inr l ↦ inr (λ g. omega arith) ])) [
    | inl none ↦ absurd (none h in_h above)
    | inr r ↦ r
  ]

  pub class_utility_exists : (o : ℕ) → o < n → count o ≡ class → (x : ℤ) × IsClassUtilityBy n cost own count u m class x
  class_utility_exists o in_o is = elim (some_higher n count class) [
    | inl none ↦ (pos 0, record { highest = λ h. refl; least = λ s t a b l e. absurd (omega (arith, none s a)); reached = λ h a l. absurd (omega (arith, none h a)) })
    | inr h ↦ go h.0 h.1 h.2
  ]
    where
      go : (h : ℕ) → h < n → class < count h → (x : ℤ) × IsClassUtilityBy n cost own count u m class x
      go h in_h above = elim (least_of n (λ t. count t ≡ class) (λ t. allowed_by cost own u m (lowest_at h in_h above t).0 t) (λ t. cases_eq (count t) class)) [
        | inl none ↦ absurd (none o in_o is)
        | inr r ↦ let s = lowest_at h in_h above r.0 in (
          allowed_by cost own u m s.0 r.0,
          record {
            highest = λ none. absurd (omega (arith, none h in_h));
            least = λ i t a b l e. through (allowed_by cost own u m s.0 r.0) (allowed_by cost own u m (lowest_at h in_h above t).0 t) (allowed_by cost own u m i t) (r.3 t b e) ((lowest_at h in_h above t).3 i a l);
            reached = λ k a l. (s.0, r.0, s.1, r.1, s.2, r.2, refl);
          },
        )
      ]
        where
          through : (x y z : ℤ) → x ≤ℤ y → y ≤ℤ z → x ≤ℤ z
          through x y z a b = omega (arith, ints)

-- ---- one class more

abbrev choose : {A P : Type 0} → P ⊎ ¬ P → A → A → A
choose (inl h) a b = a
choose (inr h) a b = b

chosen : {A P : Type 0} (d : P ⊎ ¬ P) (a b : A) → P → choose d a b ≡ a
chosen (inl h) a b p = refl
chosen (inr h) a b p = absurd (h p)

not_chosen : {A P : Type 0} (d : P ⊎ ¬ P) (a b : A) → ¬ P → choose d a b ≡ b
not_chosen (inl h) a b p = absurd (p h)
not_chosen (inr h) a b p = refl

module _ (n : ℕ) (cost : ℕ → ℕ → ℕ) (own count : ℕ → ℕ) (positive : (s t : ℕ) → s < n → t < n → count s < count t → own s < cost s t) where
  module _ (class : ℕ) (u : ℕ → ℤ) (m : ℕ → ℕ) (above : AreStandardAbove n cost own count u m (suc class)) (x : ℤ) (is : IsClassUtilityBy n cost own count u m (suc class) x) where
    next_utility : ℕ → ℤ
    next_utility t = choose (cases_eq (count t) (suc class)) x (u t)

    found : (t : ℕ) → t < n → (k : ℕ) × IsMultiplierBy n cost own count next_utility t k
    found t in_t = multiplier_exists n cost own count next_utility t (λ s a l. positive t s in_t a l)

    found_or_none : (t : ℕ) → (t < n) ⊎ (n ≤ t) → ℕ
    found_or_none t (inl l) = (found t l).0
    found_or_none t (inr l) = 0

    found_is : (t : ℕ) (d : (t < n) ⊎ (n ≤ t)) → t < n → IsMultiplierBy n cost own count next_utility t (found_or_none t d)
    unfolding found_or_none
    found_is t (inl l) in_t = (found t l).1
    found_is t (inr l) in_t = absurd (omega arith)

    next_multiplier : ℕ → ℕ
    next_multiplier t = choose (cases_eq (count t) (suc class)) (found_or_none t (cases_lt t n)) (m t)

    kept : AgreeAbove n count (suc class) u m next_utility next_multiplier
    unfolding next_utility next_multiplier
    kept s in_s l = (
      sym (not_chosen (cases_eq (count s) (suc class)) x (u s) (λ e. omega arith)),
      sym (not_chosen (cases_eq (count s) (suc class)) (found_or_none s (cases_lt s n)) (m s) (λ e. omega arith)),
    )

    utility_set : (t : ℕ) → count t ≡ suc class → next_utility t ≡ x
    unfolding next_utility
    utility_set t e = chosen (cases_eq (count t) (suc class)) x (u t) e

    multiplier_set : (t : ℕ) → count t ≡ suc class → next_multiplier t ≡ found_or_none t (cases_lt t n)
    unfolding next_multiplier
    multiplier_set t e = chosen (cases_eq (count t) (suc class)) (found_or_none t (cases_lt t n)) (m t) e

    pub next_class : (v : ℕ → ℤ) × (k : ℕ → ℕ) × AreStandardAbove n cost own count v k class
    next_class = (next_utility, next_multiplier, λ t in_t l. by_class t in_t l (cases_eq (count t) (suc class)))
      where
        by_class : (t : ℕ) → t < n → class < count t → (count t ≡ suc class) ⊎ ¬ (count t ≡ suc class) → AreNumbersBy n cost own count next_utility next_multiplier t
        by_class t in_t l (inr d) =
            standard_above_same n cost own count (suc class) u next_utility m next_multiplier kept above t in_t (omega arith)
        by_class t in_t l (inl e) = record {
          utility_is = subst (λ z. IsClassUtilityBy n cost own count next_utility next_multiplier z (next_utility t)) (sym e)
              (subst (λ z. IsClassUtilityBy n cost own count next_utility next_multiplier (suc class) z) (sym (utility_set t e))
              (class_utility_same n cost own count (suc class) u next_utility m next_multiplier x kept is));
          multiplier_is = subst (λ z. IsMultiplierBy n cost own count next_utility t z) (sym (multiplier_set t e)) (found_is t (cases_lt t n) in_t);
        }

  pub standard_above_exists : (top j class : ℕ) → ((s : ℕ) → s < n → count s ≤ top) → top ≤ class + j → (u : ℕ → ℤ) × (m : ℕ → ℕ) × AreStandardAbove n cost own count u m class
  standard_above_exists top zero class bound reach = (λ s. pos 0, λ s. 1, λ t in_t l. absurd (omega (arith, bound t in_t)))
  standard_above_exists top (suc j) class bound reach =
      let higher = standard_above_exists top j (suc class) bound (omega arith) in
      go higher.0 higher.1 higher.2 (least_of n (λ t. count t ≡ suc class) (λ t. pos 0) (λ t. cases_eq (count t) (suc class)))
    where
      go : (u : ℕ → ℤ) (m : ℕ → ℕ) → AreStandardAbove n cost own count u m (suc class) → ((i : ℕ) → i < n → ¬ (count i ≡ suc class)) ⊎ ((i : ℕ) × (i < n) × (count i ≡ suc class) × ((j : ℕ) → j < n → count j ≡ suc class → pos 0 ≤ℤ pos 0)) → (u : ℕ → ℤ) × (m : ℕ → ℕ) × AreStandardAbove n cost own count u m class
      go u m above (inl none) = (u, m, λ t in_t l. above t in_t (let d = none t in_t in omega arith))
      go u m above (inr r) =
          let x = class_utility_exists n cost own count (suc class) u m r.0 r.1 r.2 in
          next_class class u m above x.0 x.1
