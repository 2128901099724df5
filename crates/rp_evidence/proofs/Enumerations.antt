-- Enumerations: lists of the numbers below a bound of which something holds, made one number after another; there is one.
use Rattle.std.proofs.Common.{slice_index, slice_index_or, ◌≡◌, ◌<◌, ◌≤◌, ◌+◌, ◌-◌, ◌++◌, ◌∷◌, [], ◌↔◌, ℕ, zero, suc, List, length, get_or, inl, inr, sym, subst, ◌∙◌, arith, set, take}
use Rattle.std.proofs.lemmas.Bool.{cases_eq, cases_lt}
use Rattle.std.proofs.lemmas.List.{ext_get_or, get_or_append_left, get_or_default, get_or_push, length_push, take_more_set}
use Rattle.std.specs.List.Sorted.{IsStrictlyIncreasing}
use Rattle.rp_evidence.specs.Enumeration.{Enumerates}

module _ (P : ℕ → Type 0) (t : ℕ) (xs : List ℕ) (lists : Enumerates t P xs) where
  pub enumerates_without : ¬ P t → Enumerates (t + 1) P xs
  enumerates_without not = record {
    rising = lists.rising;
    just_these = λ u. (
      (λ c. let h = (lists.just_these u).0 c in (omega (arith, h.0), h.1)),
      (λ h. elim (cases_eq u t) [
        | inl e ↦ absurd (not (subst P e h.1))
        | inr d ↦ (lists.just_these u).1 (omega (arith, h.0), h.1)
      ]),
    );
  }

  entry_below : (k d : ℕ) → k < length xs → get_or xs k d < t
  entry_below k d l = ((lists.just_these (get_or xs k d)).0 (k, l, get_or_default xs k (get_or xs k d) d l)).0

  pub enumerates_with : P t → Enumerates (t + 1) P (xs ++ t ∷ [])
  enumerates_with p = record {
    rising = λ k l. elim (cases_lt (k + 1) (length xs)) [
      | inl in_front ↦
          rw (get_or_append_left xs (t ∷ []) 0 k (omega arith), get_or_append_left xs (t ∷ []) 0 (k + 1) in_front) (lists.rising k in_front)
      | inr last ↦
          let at : length xs ≡ k + 1 = omega (arith, l, length_push xs t) in
          rw (get_or_append_left xs (t ∷ []) 0 k (omega arith), get_or_push xs t 0 (k + 1) at) (entry_below k 0 (omega arith))
    ];
    just_these = λ u. (
      (λ c. elim (cases_lt c.0 (length xs)) [
        | inl in_front ↦
            let h = (lists.just_these u).0 (c.0, in_front, sym (get_or_append_left xs (t ∷ []) u c.0 in_front) ∙ c.2) in
            (omega (arith, h.0), h.1)
        | inr last ↦
            let at : length xs ≡ c.0 = omega (arith, c.1, length_push xs t) in
            let e : t ≡ u = sym (get_or_push xs t u c.0 at) ∙ c.2 in
            (omega arith, subst P e p)
      ]),
      (λ h. elim (cases_eq u t) [
        | inl e ↦ (length xs, omega (arith, length_push xs t), get_or_push xs t u (length xs) refl_length ∙ sym e)
        | inr d ↦
            let c = (lists.just_these u).1 (omega (arith, h.0), h.1) in
            (c.0, omega (arith, c.1, length_push xs t), get_or_append_left xs (t ∷ []) u c.0 c.1 ∙ c.2)
      ]),
    );
  }
    where
      refl_length : length xs ≡ length xs
      refl_length = omega arith

  pub enumerates_pushed : P t → (ys : List ℕ) → ys ≡ xs ++ t ∷ [] → Enumerates (t + 1) P ys
  enumerates_pushed p ys e = subst (λ zs. Enumerates (t + 1) P zs) (sym e) (enumerates_with p)

-- one more is written at the end of the front of a list
module _ (P : ℕ → Type 0) (t count : ℕ) (xs : List ℕ) (lists : Enumerates t P (take count xs)) where
  pub enumerates_written : P t → count < length xs → (ys : List ℕ) → ys ≡ set xs count t → Enumerates (t + 1) P (take (count + 1) ys)
  enumerates_written p room ys e =
      rw (e, take_more_set xs count t room) (enumerates_with P t (take count xs) lists p)

-- ---- rising lists

module _ (xs : List ℕ) (rising : IsStrictlyIncreasing xs) where
  pub rises : (i j : ℕ) → i < j → j < length xs → slice_index xs i < slice_index xs j
  rises i zero l a = absurd (omega arith)
  rises i (suc j) l a = elim (cases_eq i j) [
    | inl e ↦ subst (λ z. slice_index xs z < slice_index xs (suc j)) (sym e) last
    | inr d ↦ (let h = rises i j (omega arith) (omega arith) in omega (arith, h, last))
  ]
    where
      last : slice_index xs j < slice_index xs (suc j)
      last =
          let e : j + 1 ≡ suc j = omega arith in
          subst (λ z. slice_index xs j < slice_index xs z) e (rising j (omega arith))

  pub at_least_place : (k : ℕ) → k < length xs → k ≤ slice_index xs k
  at_least_place zero l = omega arith
  at_least_place (suc k) l =
      let h = at_least_place k (omega arith) in
      let r = rises k (suc k) (omega arith) l in
      omega (arith, h, r)

-- entries that rise and stay below n are no more than n
pub enumerates_few : (n : ℕ) (P : ℕ → Type 0) (xs : List ℕ) → Enumerates n P xs → length xs ≤ n
enumerates_few n P xs lists = elim (cases_lt 0 (length xs)) [
  | inl some ↦
      let k = length xs - 1 in
      let l : k < length xs = omega arith in
      let h = at_least_place xs lists.rising k l in
      let b = ((lists.just_these (get_or xs k 0)).0 (k, l, get_or_default xs k (get_or xs k 0) 0 l)).0 in
      omega (arith, h, b)
  | inr none ↦ omega (arith, none)
]

-- ---- what its entries are, and properties that say the same

pub enumerates_observed : (n : ℕ) (P : ℕ → Type 0) (list : List ℕ) → Enumerates n P list → (k d : ℕ) → k < length list → slice_index_or list k d < n
enumerates_observed n P list lists k d l = ((lists.just_these (slice_index_or list k d)).0 (k, l, get_or_default list k (slice_index_or list k d) d l)).0

pub enumerates_same : (n : ℕ) (P Q : ℕ → Type 0) → ((t : ℕ) → t < n → P t ↔ Q t) → (list : List ℕ) → Enumerates n P list → Enumerates n Q list
enumerates_same n P Q same list lists = record {
  rising = lists.rising;
  just_these = λ t. (
    (λ c. let h = (lists.just_these t).0 c in (h.0, (same t h.0).0 h.1)),
    (λ h. (lists.just_these t).1 (h.0, (same t h.0).1 h.1)),
  );
}

-- ---- there is one such list

module _ (n : ℕ) (P : ℕ → Type 0) where
  -- an entry of one list is not below that of the other, where the earlier ones are the same
  pub not_lower : (xs ys : List ℕ) → Enumerates n P xs → Enumerates n P ys → (k : ℕ) → ((j : ℕ) → j < k → slice_index xs j ≡ slice_index ys j) → k < length xs
      → (k < length ys) × (slice_index ys k ≤ slice_index xs k)
  not_lower xs ys one other k same l =
      let c = (other.just_these (slice_index xs k)).1 ((one.just_these (slice_index xs k)).0 (k, l, get_or_default xs k (slice_index xs k) 0 l)) in
      let here : slice_index ys c.0 ≡ slice_index xs k = get_or_default ys c.0 0 (slice_index xs k) c.1 ∙ c.2 in
      elim (cases_lt c.0 k) [
        | inl early ↦
            let e = same c.0 early in
            let r = rises xs one.rising c.0 k early l in
            absurd (omega (arith, here, e, r))
        | inr late ↦ elim (cases_eq c.0 k) [
          | inl e ↦ (omega (arith, c.1, e), (let q = subst (λ z. slice_index ys z ≡ slice_index xs k) e here in omega (arith, q)))
          | inr d ↦ (omega (arith, c.1, late), (let r = rises ys other.rising k c.0 (omega (arith, late, d)) c.1 in omega (arith, r, here)))
        ]
      ]

  both : (xs ys : List ℕ) → Enumerates n P xs → Enumerates n P ys → (k : ℕ) → ((j : ℕ) → j < k → j < length xs → slice_index xs j ≡ slice_index ys j) → k < length xs → slice_index xs k ≡ slice_index ys k
  both xs ys one other k before l =
      let a = not_lower xs ys one other k (λ j b. before j b (omega arith)) l in
      let b = not_lower ys xs other one k (λ j c. sym (before j c (omega arith))) a.0 in
      omega (arith, a.1, b.1)

  same_up_to : (xs ys : List ℕ) → Enumerates n P xs → Enumerates n P ys → (k j : ℕ) → j < k → j < length xs → slice_index xs j ≡ slice_index ys j
  same_up_to xs ys one other zero j l a = absurd (omega arith)
  same_up_to xs ys one other (suc k) j l a =
      both xs ys one other j (λ i b c. same_up_to xs ys one other k i (omega arith) c) a

  not_longer : (xs ys : List ℕ) → Enumerates n P xs → Enumerates n P ys → length xs ≤ length ys
  not_longer xs ys one other = elim (cases_lt (length ys) (length xs)) [
    | inl l ↦ absurd (omega (arith, (not_lower xs ys one other (length ys) (λ j b. same_up_to xs ys one other (length ys) j b (omega arith)) l).0))
    | inr g ↦ g
  ]

  pub enumeration_is_one : (xs ys : List ℕ) → Enumerates n P xs → Enumerates n P ys → xs ≡ ys
  enumeration_is_one xs ys one other =
      ext_get_or 0 xs ys (omega (arith, not_longer xs ys one other, not_longer ys xs other one)) (λ k l. same_up_to xs ys one other (length xs) k l l)
