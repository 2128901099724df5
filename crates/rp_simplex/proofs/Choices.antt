-- Choosing the row that leaves, row by row.
use Rattle.std.proofs.Common.{◌≡◌, ◌≢◌, ℕ, ◌+◌, ◌<◌, ℤ, pos, ◌*ℤ◌, ◌<ℤ◌, ◌≤ℤ◌, Bool, ◌⊎◌, true, false, inl, inr, refl, sym, ◌∙◌, ap, subst, arith, Option, None, Some, MatchBool}
use Rattle.std.proofs.lemmas.Int.{ints}
use Rattle.std.proofs.lemmas.Bool.{cases_eq, cases_lt}
use lib.Signed.{lt_z}
use Rattle.rp_simplex.specs.ExactTableau.{ExactTableau}
use Rattle.rp_simplex.specs.Lexicographic.{IsLexLess}
use Rattle.rp_simplex.specs.Choice.{IsLeaving}
use Rattle.rp_simplex.specs.InnerTableau.{HasNoTies, LeavesBelow}
use Rattle.rp_simplex.proofs.Ring.{at, ◌⊗◌, ring}
use Rattle.rp_simplex.proofs.Linear.{cancel, cancel_less, as_pos}
use Rattle.rp_farkas.proofs.Integers.{times_strict}
use borrow.Author.Differences.{up, down, same_in, below_in}

-- two numbers are equal, or one is less
pub order : (x y : ℤ) → (x ≡ y) ⊎ ((x <ℤ y) ⊎ (y <ℤ x))
order x y = elim (cases_lt (up x + down y) (up y + down x)) [
  | inl less ↦ inr (inl (below_in x y less))
  | inr at_least ↦ elim (cases_eq (up x + down y) (up y + down x)) [
    | inl same ↦ inl (same_in x y same)
    | inr ne ↦ inr (inr (below_in y x (omega arith)))
  ]
]

less_by : (x y a b : ℤ) → x ≡ a → y ≡ b → lt_z x y ≡ true → a <ℤ b
less_by x y a b e k h = omega (arith, ints)

more_by : (x y a b : ℤ) → x ≡ a → y ≡ b → x ≢ y → lt_z x y ≡ false → b <ℤ a
more_by x y a b e k ne h = elim (order x y) [
  | inl same ↦ absurd (ne same)
  | inr other ↦ elim other [ inl less ↦ absurd (omega (arith, ints)) | inr more ↦ omega (arith, ints) ]
]

decided : (n j : ℕ) (f g : ℕ → ℤ) (x y : ℤ) → j < n → ((k : ℕ) → k < j → f k ≡ g k) → x ≡ f j → y ≡ g j → x ≢ y
    → (b : Bool) → lt_z x y ≡ b → MatchBool b (IsLexLess n f g) (IsLexLess n g f ⊎ ((k : ℕ) → k < n → f k ≡ g k))
decided n j f g x y l same hx hy ne true e = record { place = j; in_range = l; same_before = same; less = less_by x y (f j) (g j) hx hy e }
decided n j f g x y l same hx hy ne false e = inl (record { place = j; in_range = l; same_before = λ k m. sym (same k m); less = more_by x y (f j) (g j) hx hy ne e })

-- the first place where two rows differ decides
pub first_difference : (n j : ℕ) (f g : ℕ → ℤ) (x y : ℤ) → j < n → ((k : ℕ) → k < j → f k ≡ g k) → x ≡ f j → y ≡ g j → x ≢ y
    → MatchBool (lt_z x y) (IsLexLess n f g) (IsLexLess n g f ⊎ ((k : ℕ) → k < n → f k ≡ g k))
first_difference n j f g x y l same hx hy ne = decided n j f g x y l same hx hy ne (lt_z x y) refl

-- ---- the lexicographic order of ratios is transitive
times_less : (e x y : ℤ) → pos 0 <ℤ e → x <ℤ y → (e *ℤ x) <ℤ (e *ℤ y)
times_less e x y h l =
    let parts = as_pos e h in
    let scaled : (x *ℤ pos (up e)) <ℤ (y *ℤ pos (up e)) = times_strict x y (up e) parts.1 l in
    subst (λ z. (z *ℤ x) <ℤ (z *ℤ y)) (sym parts.0) (omega (arith, ints, scaled))

cancel_factor : (e x y : ℤ) → pos 0 <ℤ e → e *ℤ x ≡ e *ℤ y → x ≡ y
cancel_factor e x y h q =
    let parts = as_pos e h in
    let moved : pos (up e) *ℤ x ≡ pos (up e) *ℤ y = subst (λ z. z *ℤ x ≡ z *ℤ y) parts.0 q in
    cancel x y (up e) parts.1 (omega (arith, ints, moved))

cancel_factor_less : (e x y : ℤ) → pos 0 <ℤ e → (e *ℤ x) <ℤ (e *ℤ y) → x <ℤ y
cancel_factor_less e x y h q =
    let parts = as_pos e h in
    let moved : (pos (up e) *ℤ x) <ℤ (pos (up e) *ℤ y) = subst (λ z. (z *ℤ x) <ℤ (z *ℤ y)) parts.0 q in
    cancel_less x y (up e) (omega (arith, ints, moved))

joined : (a b c d x y : ℤ) → a <ℤ b → b ≡ c → c <ℤ d → x ≡ a → d ≡ y → x <ℤ y
joined a b c d x y p q r e f = omega (arith, ints)

module _ (ea eb ek : ℤ) (ha : pos 0 <ℤ ea) (hb : pos 0 <ℤ eb) (hk : pos 0 <ℤ ek) where
  left : (a : ℤ) → eb *ℤ (ek *ℤ a) ≡ ek *ℤ (eb *ℤ a)
  left a = ring (at eb ⊗ (at ek ⊗ at a)) (at ek ⊗ (at eb ⊗ at a)) (omega arith)

  middle : (b : ℤ) → ek *ℤ (ea *ℤ b) ≡ ea *ℤ (ek *ℤ b)
  middle b = ring (at ek ⊗ (at ea ⊗ at b)) (at ea ⊗ (at ek ⊗ at b)) (omega arith)

  right : (k : ℤ) → ea *ℤ (eb *ℤ k) ≡ eb *ℤ (ea *ℤ k)
  right k = ring (at ea ⊗ (at eb ⊗ at k)) (at eb ⊗ (at ea ⊗ at k)) (omega arith)

  same_ratio : (a b k : ℤ) → eb *ℤ a ≡ ea *ℤ b → ek *ℤ b ≡ eb *ℤ k → ek *ℤ a ≡ ea *ℤ k
  same_ratio a b k p q = cancel_factor eb (ek *ℤ a) (ea *ℤ k) hb (left a ∙ ap (λ z. ek *ℤ z) p ∙ middle b ∙ ap (λ z. ea *ℤ z) q ∙ right k)

  less_ratio : (a b k : ℤ) → eb *ℤ a ≡ ea *ℤ b → (ek *ℤ b) <ℤ (eb *ℤ k) → (ek *ℤ a) <ℤ (ea *ℤ k)
  less_ratio a b k p q = cancel_factor_less eb (ek *ℤ a) (ea *ℤ k) hb
      (subst (λ z. z <ℤ (eb *ℤ (ea *ℤ k))) (sym (left a ∙ ap (λ z. ek *ℤ z) p ∙ middle b))
      (subst (λ z. (ea *ℤ (ek *ℤ b)) <ℤ z) (right k) (times_less ea (ek *ℤ b) (eb *ℤ k) ha q)))

  less_same_ratio : (a b k : ℤ) → (eb *ℤ a) <ℤ (ea *ℤ b) → ek *ℤ b ≡ eb *ℤ k → (ek *ℤ a) <ℤ (ea *ℤ k)
  less_same_ratio a b k p q = cancel_factor_less eb (ek *ℤ a) (ea *ℤ k) hb
      (subst (λ z. z <ℤ (eb *ℤ (ea *ℤ k))) (sym (left a))
      (subst (λ z. (ek *ℤ (eb *ℤ a)) <ℤ z) (middle b ∙ ap (λ z. ea *ℤ z) q ∙ right k) (times_less ek (eb *ℤ a) (ea *ℤ b) hk p)))

  less_less_ratio : (a b k : ℤ) → (eb *ℤ a) <ℤ (ea *ℤ b) → (ek *ℤ b) <ℤ (eb *ℤ k) → (ek *ℤ a) <ℤ (ea *ℤ k)
  less_less_ratio a b k p q =
      let one : (ek *ℤ (eb *ℤ a)) <ℤ (ek *ℤ (ea *ℤ b)) = times_less ek (eb *ℤ a) (ea *ℤ b) hk p in
      let two : (ea *ℤ (ek *ℤ b)) <ℤ (ea *ℤ (eb *ℤ k)) = times_less ea (ek *ℤ b) (eb *ℤ k) ha q in
      cancel_factor_less eb (ek *ℤ a) (ea *ℤ k) hb
      (joined (ek *ℤ (eb *ℤ a)) (ek *ℤ (ea *ℤ b)) (ea *ℤ (ek *ℤ b)) (ea *ℤ (eb *ℤ k)) (eb *ℤ (ek *ℤ a)) (eb *ℤ (ea *ℤ k)) one (middle b) two (left a) (right k))

  lex_trans : (n : ℕ) (a b k : ℕ → ℤ) → IsLexLess n (λ j. eb *ℤ a j) (λ j. ea *ℤ b j) → IsLexLess n (λ j. ek *ℤ b j) (λ j. eb *ℤ k j) → IsLexLess n (λ j. ek *ℤ a j) (λ j. ea *ℤ k j)
  lex_trans n a b k p q = elim (cases_lt p.place q.place) [
    | inl first ↦ record {
      place = p.place;
      in_range = p.in_range;
      same_before = λ j l. same_ratio (a j) (b j) (k j) (p.same_before j l) (q.same_before j (omega arith));
      less = less_same_ratio (a p.place) (b p.place) (k p.place) p.less (q.same_before p.place first);
    }
    | inr later ↦ elim (cases_eq p.place q.place) [
      | inl same ↦ record {
        place = p.place;
        in_range = p.in_range;
        same_before = λ j l. same_ratio (a j) (b j) (k j) (p.same_before j l) (q.same_before j (omega arith));
        less = less_less_ratio (a p.place) (b p.place) (k p.place) p.less (subst (λ j. (ek *ℤ b j) <ℤ (eb *ℤ k j)) (sym same) q.less);
      }
      | inr ne ↦ record {
        place = q.place;
        in_range = q.in_range;
        same_before = λ j l. same_ratio (a j) (b j) (k j) (p.same_before j (omega arith)) (q.same_before j l);
        less = less_ratio (a q.place) (b q.place) (k q.place) (p.same_before q.place (omega arith)) q.less;
      }
    ]
  ]

-- ---- one more row
module _ (rows width : ℕ) (t : ExactTableau) (c i : ℕ) (hi : i < rows) (ties : HasNoTies rows width t c) where
  pub keep : (best : Option ℕ) → t.at i c ≤ℤ pos 0 → LeavesBelow i width t c best → LeavesBelow (i + 1) width t c best
  keep None flat h = λ k l. elim (cases_eq k i) [ inl e ↦ subst (λ q. t.at q c ≤ℤ pos 0) (sym e) flat | inr ne ↦ h k (omega arith) ]
  keep (Some r) flat h = record {
    in_rows = omega (arith, h.in_rows);
    positive = h.positive;
    least = λ k l ne positive. elim (cases_eq k i) [
      | inl e ↦ let here : pos 0 <ℤ t.at i c = subst (λ q. pos 0 <ℤ t.at q c) e positive in absurd (omega (arith, ints))
      | inr other ↦ h.least k (omega arith) ne positive
    ];
  }

  pub replaced : (r : ℕ) → pos 0 <ℤ t.at i c → IsLeaving i width t c r → IsLexLess width (λ j. t.at r c *ℤ t.at i j) (λ j. t.at i c *ℤ t.at r j) → IsLeaving (i + 1) width t c i
  replaced r above h less = record {
    in_rows = omega arith;
    positive = above;
    least = λ k l ne positive. elim (cases_eq k r) [
      | inl e ↦ subst (λ q. IsLexLess width (λ j. t.at q c *ℤ t.at i j) (λ j. t.at i c *ℤ t.at q j)) (sym e) less
      | inr other ↦ lex_trans (t.at i c) (t.at r c) (t.at k c) above h.positive positive width (t.at i) (t.at r) (t.at k) less (h.least k (omega arith) other positive)
    ];
  }

  pub kept : (r : ℕ) → pos 0 <ℤ t.at i c → IsLeaving i width t c r
      → (IsLexLess width (λ j. t.at i c *ℤ t.at r j) (λ j. t.at r c *ℤ t.at i j)) ⊎ ((j : ℕ) → j < width → t.at r c *ℤ t.at i j ≡ t.at i c *ℤ t.at r j)
      → IsLeaving (i + 1) width t c r
  kept r above h compared = record {
    in_rows = omega (arith, h.in_rows);
    positive = h.positive;
    least = λ k l ne positive. elim (cases_eq k i) [
      | inl e ↦ subst (λ q. IsLexLess width (λ j. t.at q c *ℤ t.at r j) (λ j. t.at r c *ℤ t.at q j)) (sym e) (elim compared [
        | inl less ↦ less
        | inr tie ↦ absurd (ties i r hi (omega (arith, h.in_rows)) (λ q. absurd (omega (arith, h.in_rows))) above (λ j m. sym (tie j m)))
      ])
      | inr other ↦ h.least k (omega arith) ne positive
    ];
  }
