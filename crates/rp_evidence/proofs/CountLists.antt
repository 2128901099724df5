-- How many observations meet a condition, by the lists of them.
use Rattle.std.proofs.Common.{◌↔◌, ◌≡◌, ◌≢◌, ◌<◌, ◌≤◌, ◌+◌, ◌⊎◌, inl, inr, ℕ, zero, suc, List, ◌∷◌, length, refl, sym, ap, subst, ◌∙◌, arith, Contains, AllPairs, get_or, Bool, true, false, cond, filter, count_by}
use Rattle.std.specs.List.{range_with_len}
use Rattle.std.specs.List.Sorted.{IsStrictlyIncreasing}
use Rattle.std.specs.Cmp.{nat_eq_equiv}
use Rattle.std.proofs.lemmas.Bool.{cases_eq, false≢true}
use Rattle.std.proofs.lemmas.Bool.Decides.{Decides-eqb}
use Rattle.std.proofs.lemmas.List.{get_or_default}
use Rattle.std.proofs.lemmas.List.FromFn.{length-range_with_len, get_or-range_with_len}
use Rattle.std.proofs.lemmas.List.Kept.{AllPairs-cons, AllPairs-from_increasing, IsStrictlyIncreasing-filter}
use Rattle.std.proofs.lemmas.List.Sums.{length-filter}
use Rattle.std.proofs.lemmas.Map.Made.{is_member-Decides, length-le_from_is_member, IsDistinct-from_AllPairs}
use Rattle.rp_evidence.specs.Count.{IsNumberOf}
use Rattle.rp_evidence.proofs.Enumerations.{enumerates_same}

-- a rising list has none twice
none_twice : (xs : List ℕ) → IsStrictlyIncreasing xs → AllPairs (λ x y. x ≢ y) xs
none_twice xs rising i j d before within e = absurd (omega (arith, AllPairs-from_increasing xs rising i j d before within, e))

-- a list that has none twice is no longer than one that has all its entries
none_twice_is_shorter : (xs ys : List ℕ) → AllPairs (λ x y. x ≢ y) xs → ((t : ℕ) → Contains xs t → Contains ys t) → length xs ≤ length ys
none_twice_is_shorter xs ys apart inside =
    length-le_from_is_member nat_eq_equiv xs ys (IsDistinct-from_AllPairs Decides-eqb xs apart)
    (λ q h. (is_member-Decides Decides-eqb ys q).1 (inside q ((is_member-Decides Decides-eqb xs q).0 h)))

module _ (n : ℕ) (P Q : ℕ → Type 0) (narrower : (t : ℕ) → t < n → P t → Q t) where
  pub number_grows : (j k : ℕ) → IsNumberOf n P j → IsNumberOf n Q k → j ≤ k
  number_grows j k p q =
      let l = none_twice_is_shorter p.0 q.0 (none_twice p.0 p.1.rising) (λ t c. let h = (p.1.just_these t).0 c in (q.1.just_these t).1 (h.0, narrower t h.0 h.1)) in
      omega (arith, l, p.2, q.2)

  pub number_grows_past : (x j k : ℕ) → x < n → Q x → ¬ P x → IsNumberOf n P j → IsNumberOf n Q k → j < k
  number_grows_past x j k b y not_here p q =
      let away : (i : ℕ) (d : ℕ) → i < length p.0 → x ≢ get_or p.0 i d = λ i d l e. not_here (subst P (sym e) ((p.1.just_these (get_or p.0 i d)).0 (i, l, same i d l)).1) in
      let l = none_twice_is_shorter (x ∷ p.0) q.0 (AllPairs-cons (λ a b. a ≢ b) x p.0 away (none_twice p.0 p.1.rising)) (λ t c. inside t c.0 c.1 c.2) in
      omega (arith, p.2, q.2, l)
    where
      same : (i d : ℕ) → i < length p.0 → get_or p.0 i (get_or p.0 i d) ≡ get_or p.0 i d
      same i d l = get_or_default p.0 i (get_or p.0 i d) d l

      inside : (t i : ℕ) → i < suc (length p.0) → get_or (x ∷ p.0) i t ≡ t → Contains q.0 t
      inside t zero l e = (q.1.just_these t).1 (subst (λ z. (z < n) × Q z) e (b, y))
      inside t (suc i) l e = let h = (p.1.just_these t).0 (i, omega arith, e) in (q.1.just_these t).1 (h.0, narrower t h.0 h.1)

pub number_is_one : (n : ℕ) (P : ℕ → Type 0) (j k : ℕ) → IsNumberOf n P j → IsNumberOf n P k → j ≡ k
number_is_one n P j k p q =
    let a = number_grows n P P (λ t l h. h) j k p q in
    let b = number_grows n P P (λ t l h. h) k j q p in
    omega arith

-- the number is the same for a condition that says the same
pub number_same : (n : ℕ) (P Q : ℕ → Type 0) (k : ℕ) → ((t : ℕ) → t < n → P t ↔ Q t) → IsNumberOf n P k → IsNumberOf n Q k
number_same n P Q k same p = (p.0, enumerates_same n P Q same p.0 p.1, p.2)

-- ---- from a test

contains_cases : (x : ℕ) (xs : List ℕ) (t : ℕ) → Contains (x ∷ xs) t → (x ≡ t) ⊎ Contains xs t
contains_cases x xs t c = go c.0 c.1 c.2
  where
    go : (k : ℕ) → k < suc (length xs) → get_or (x ∷ xs) k t ≡ t → (x ≡ t) ⊎ Contains xs t
    go zero l e = inl e
    go (suc k) l e = inr (k, omega arith, e)

contains_later : (x : ℕ) (xs : List ℕ) (t : ℕ) → Contains xs t → Contains (x ∷ xs) t
contains_later x xs t c = (suc c.0, omega (arith, c.1), c.2)

-- the numbers from a to a + m that pass a test
passing : (ℕ → Bool) → ℕ → ℕ → List ℕ
passing test a m = filter test (range_with_len a m)

module _ (test : ℕ → Bool) where
  has_only : (a m t : ℕ) → Contains (passing test a m) t → (a ≤ t) × (t < a + m) × (test t ≡ true)
  unfolding passing
  has_only a zero t c = absurd (omega (arith, c.1))
  has_only a (suc m) t c =
      go (λ d. let h = has_only (a + 1) m t d in (omega (arith, h.0), omega (arith, h.1), h.2)) (test a) refl c
    where
      go : (Contains (filter test (range_with_len (a + 1) m)) t → (a ≤ t) × (t < a + suc m) × (test t ≡ true)) → (b : Bool) → test a ≡ b → Contains (cond b (a ∷ filter test (range_with_len (a + 1) m)) (filter test (range_with_len (a + 1) m))) t → (a ≤ t) × (t < a + suc m) × (test t ≡ true)
      go later false e d = later d
      go later true e d =
          elim (contains_cases a (filter test (range_with_len (a + 1) m)) t d) [
            | inl s ↦ (omega (arith, s), omega (arith, s), subst (λ z. test z ≡ true) s e)
            | inr r ↦ later r
          ]

  has_all : (a m t : ℕ) → a ≤ t → t < a + m → test t ≡ true → Contains (passing test a m) t
  unfolding passing
  has_all a zero t l h p = absurd (omega arith)
  has_all a (suc m) t l h p =
      go (λ d. has_all (a + 1) m t (omega arith) (omega arith) p) (test a) refl (cases_eq a t)
    where
      go : (a ≢ t → Contains (filter test (range_with_len (a + 1) m)) t) → (b : Bool) → test a ≡ b → (a ≡ t) ⊎ (a ≢ t) → Contains (cond b (a ∷ filter test (range_with_len (a + 1) m)) (filter test (range_with_len (a + 1) m))) t
      go later true e (inl q) = (0, omega arith, q)
      go later true e (inr d) = contains_later a (filter test (range_with_len (a + 1) m)) t (later d)
      go later false e (inl q) = absurd (false≢true (sym e ∙ ap test q ∙ p))
      go later false e (inr d) = later d

-- how many of the numbers below n meet P, where a test tells
pub number_by_test : (n : ℕ) (P : ℕ → Type 0) (test : ℕ → Bool) → ((t : ℕ) → t < n → (test t ≡ true → P t) × (P t → test t ≡ true)) → IsNumberOf n P (count_by test (range_with_len 0 n))
unfolding passing
number_by_test n P test tells = (
  passing test 0 n,
  record {
    rising = IsStrictlyIncreasing-filter test (range_with_len 0 n) one_by_one;
    just_these = λ t. (
      λ c. let h = has_only test 0 n t c in let l : t < n = omega (arith, h.1) in (l, (tells t l).0 h.2),
      λ h. has_all test 0 n t (omega arith) (omega (arith, h.0)) ((tells t h.0).1 h.1),
    );
  },
  length-filter test (range_with_len 0 n),
)
  where
    one_by_one : IsStrictlyIncreasing (range_with_len 0 n)
    one_by_one k within =
        let many = length-range_with_len 0 n in
        let here = get_or-range_with_len 0 n k 0 (omega arith) in
        let next = get_or-range_with_len 0 n (k + 1) 0 (omega arith) in
        omega (arith, here, next)
