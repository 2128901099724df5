-- Sums of whole numbers whose terms change as rows do in a pivot.
use Rattle.std.proofs.Common.{◌≡◌, ◌≢◌, ℕ, zero, suc, ◌+◌, ◌*◌, ◌<◌, ◌≤◌, ℤ, pos, negsuc, ◌+ℤ◌, ◌-ℤ◌, ◌*ℤ◌, ◌<ℤ◌, eqb, true, false, inl, inr, refl, sym, ◌∙◌, ap, subst, arith}
use Rattle.std.proofs.lemmas.Int.{ints}
use Rattle.std.proofs.lemmas.Bool.{cases_eq, eq-eqb, ne_eqb}
use Rattle.std.proofs.Math.Nat.{eq_of_mul-eq-mul_right, lt_of_mul-lt-mul_right}
use borrow.Author.Differences.{up, down, same_in, same_out, product_is, lt_out, below_in}
use Rattle.rp_farkas.specs.Total.{total}
use Rattle.rp_farkas.proofs.Integers.{times_strict}
use Rattle.rp_farkas.proofs.Totals.{total-same, total-zero, total-add, total-scale}
use Rattle.rp_simplex.specs.InnerCombined.{delta}
use Rattle.rp_simplex.proofs.Ring.{at, ◌⊕◌, ◌⊖◌, ◌⊗◌, ring}

pub delta-same : (i : ℕ) → delta i i ≡ pos 1
delta-same i = let here : eqb i i ≡ true = eq-eqb i i refl in rw here refl

pub delta-other : (i k : ℕ) → i ≢ k → delta i k ≡ pos 0
delta-other i k ne = let other : eqb i k ≡ false = ne_eqb i k ne in rw other refl

pub delta-swapped : (i k : ℕ) → delta i k ≡ delta k i
delta-swapped i k = elim (cases_eq i k) [
  | inl e ↦ subst (λ j. delta i j ≡ delta j i) e refl
  | inr ne ↦ delta-other i k ne ∙ sym (delta-other k i (λ e. ne (sym e)))
]

pub total-delta_past : (n i : ℕ) (f : ℕ → ℤ) → n ≤ i → total n (λ k. delta i k *ℤ f k) ≡ pos 0
total-delta_past n i f l =
    total-same n (λ k. delta i k *ℤ f k) (λ _. pos 0) (λ k m. ap (λ z. z *ℤ f k) (delta-other i k (omega arith)) ∙ omega (arith, ints))
    ∙ total-zero n

last : (s d x y : ℤ) → s ≡ pos 0 → d ≡ pos 1 → y ≡ x → s +ℤ (d *ℤ x) ≡ y
last s d x y a b c = ap (λ z. z +ℤ (d *ℤ x)) a ∙ ap (λ z. pos 0 +ℤ (z *ℤ x)) b ∙ omega (arith, ints)

rest : (s d x y : ℤ) → s ≡ y → d ≡ pos 0 → s +ℤ (d *ℤ x) ≡ y
rest s d x y a b = ap (λ z. s +ℤ (z *ℤ x)) b ∙ omega (arith, ints)

pub total-delta : (n i : ℕ) (f : ℕ → ℤ) → i < n → total n (λ k. delta i k *ℤ f k) ≡ f i
unfolding total
total-delta zero i f l = absurd (omega arith)
total-delta (suc n) i f l = elim (cases_eq i n) [
  | inl e ↦
      let past : total n (λ k. delta i k *ℤ f k) ≡ pos 0 = total-delta_past n i f (omega arith) in
      let here : delta i n ≡ pos 1 = subst (λ k. delta i k ≡ pos 1) e (delta-same i) in
      let same : f i ≡ f n = ap f e in
      last (total n (λ k. delta i k *ℤ f k)) (delta i n) (f n) (f i) past here same
  | inr ne ↦
      let before : total n (λ k. delta i k *ℤ f k) ≡ f i = total-delta n i f (omega arith) in
      rest (total n (λ k. delta i k *ℤ f k)) (delta i n) (f n) (f i) before (delta-other i n ne)
]

cleared_step : (s t x y f p q : ℤ) → ((s *ℤ p) -ℤ (q *ℤ t)) +ℤ (((x *ℤ p) -ℤ (q *ℤ y)) *ℤ f) ≡ ((s +ℤ (x *ℤ f)) *ℤ p) -ℤ (q *ℤ (t +ℤ (y *ℤ f)))
cleared_step s t x y f p q = ring
    (((at s ⊗ at p) ⊖ (at q ⊗ at t)) ⊕ (((at x ⊗ at p) ⊖ (at q ⊗ at y)) ⊗ at f))
    (((at s ⊕ (at x ⊗ at f)) ⊗ at p) ⊖ (at q ⊗ (at t ⊕ (at y ⊗ at f))))
    (omega arith)

-- rows x are changed to x p - q y
pub total-cleared : (n : ℕ) (x y f : ℕ → ℤ) (p q : ℤ)
    → total n (λ s. ((x s *ℤ p) -ℤ (q *ℤ y s)) *ℤ f s) ≡ (total n (λ s. x s *ℤ f s) *ℤ p) -ℤ (q *ℤ total n (λ s. y s *ℤ f s))
unfolding total
total-cleared zero x y f p q = ring (at (pos 0)) ((at (pos 0) ⊗ at p) ⊖ (at q ⊗ at (pos 0))) (omega arith)
total-cleared (suc n) x y f p q =
    ap (λ z. z +ℤ (((x n *ℤ p) -ℤ (q *ℤ y n)) *ℤ f n)) (total-cleared n x y f p q)
    ∙ cleared_step (total n (λ s. x s *ℤ f s)) (total n (λ s. y s *ℤ f s)) (x n) (y n) (f n) p q

-- the same with the coefficients in front and the other factor of y
pub total-weighed : (n : ℕ) (f x y : ℕ → ℤ) (p q : ℤ)
    → total n (λ i. f i *ℤ ((x i *ℤ p) -ℤ (y i *ℤ q))) ≡ (total n (λ i. f i *ℤ x i) *ℤ p) -ℤ (total n (λ i. f i *ℤ y i) *ℤ q)
unfolding total
total-weighed zero f x y p q = ring (at (pos 0)) ((at (pos 0) ⊗ at p) ⊖ (at (pos 0) ⊗ at q)) (omega arith)
total-weighed (suc n) f x y p q =
    ap (λ z. z +ℤ (f n *ℤ ((x n *ℤ p) -ℤ (y n *ℤ q)))) (total-weighed n f x y p q)
    ∙ ring
    (((at (total n (λ i. f i *ℤ x i)) ⊗ at p) ⊖ (at (total n (λ i. f i *ℤ y i)) ⊗ at q)) ⊕ (at (f n) ⊗ ((at (x n) ⊗ at p) ⊖ (at (y n) ⊗ at q))))
    (((at (total n (λ i. f i *ℤ x i)) ⊕ (at (f n) ⊗ at (x n))) ⊗ at p) ⊖ ((at (total n (λ i. f i *ℤ y i)) ⊕ (at (f n) ⊗ at (y n))) ⊗ at q))
    (omega arith)

pub total-scaled : (n : ℕ) (x f : ℕ → ℤ) (d : ℤ) → total n (λ s. (x s *ℤ d) *ℤ f s) ≡ total n (λ s. x s *ℤ f s) *ℤ d
total-scaled n x f d =
    total-same n (λ s. (x s *ℤ d) *ℤ f s) (λ s. (x s *ℤ f s) *ℤ d) (λ s _. ring ((at (x s) ⊗ at d) ⊗ at (f s)) ((at (x s) ⊗ at (f s)) ⊗ at d) (omega arith))
    ∙ total-scale n (λ s. x s *ℤ f s) d

-- one term is added in the place of a zero
pub total-changed : (n r : ℕ) (h k : ℕ → ℤ) → r < n → ((i : ℕ) → i < n → i ≢ r → k i ≡ h i) → h r ≡ pos 0 → total n k ≡ total n h +ℤ k r
total-changed n r h k l same none =
    total-same n k (λ i. h i +ℤ (delta r i *ℤ k i)) (λ i m. elim (cases_eq i r) [
      | inl e ↦ subst (λ j. k j ≡ h j +ℤ (delta r j *ℤ k j)) (sym e) (sym (ap (λ z. z +ℤ (delta r r *ℤ k r)) none ∙ ap (λ z. pos 0 +ℤ (z *ℤ k r)) (delta-same r) ∙ omega (arith, ints)))
      | inr ne ↦ same i m ne ∙ sym (ap (λ z. h i +ℤ (z *ℤ k i)) (delta-other r i (λ e. ne (sym e))) ∙ omega (arith, ints))
    ])
    ∙ total-add n h (λ i. delta r i *ℤ k i)
    ∙ ap (λ z. total n h +ℤ z) (total-delta n r k l)

-- ---- signs and positive factors
pub cancel : (x y : ℤ) (g : ℕ) → 0 < g → x *ℤ pos g ≡ y *ℤ pos g → x ≡ y
cancel x y g positive e =
    let parts = same_out (x *ℤ pos g) (y *ℤ pos g) e in
    let scaled : (up x + down y) * g ≡ (up y + down x) * g = omega (arith, product_is x (pos g), product_is y (pos g)) in
    let same : up x + down y ≡ up y + down x = eq_of_mul-eq-mul_right g positive (up x + down y) (up y + down x) scaled in
    same_in x y (omega arith)

pub cancel_less : (x y : ℤ) (g : ℕ) → (x *ℤ pos g) <ℤ (y *ℤ pos g) → x <ℤ y
cancel_less x y g h =
    let parts = lt_out (x *ℤ pos g) (y *ℤ pos g) h in
    let scaled : (up x + down y) * g < (up y + down x) * g = omega (arith, product_is x (pos g), product_is y (pos g)) in
    let less : up x + down y < up y + down x = lt_of_mul-lt-mul_right g scaled in
    below_in x y (omega arith)

-- a positive number is a natural
pub as_pos : (z : ℤ) → pos 0 <ℤ z → (z ≡ pos (up z)) × (0 < up z)
as_pos (pos n) h = (refl, let parts = lt_out (pos 0) (pos n) h in omega arith)
as_pos (negsuc n) h = absurd (omega (arith, ints))

pub positive_times : (a b : ℤ) → pos 0 <ℤ a → pos 0 <ℤ b → pos 0 <ℤ (a *ℤ b)
positive_times a b h k =
    let parts = as_pos b k in
    let scaled : (pos 0 *ℤ pos (up b)) <ℤ (a *ℤ pos (up b)) = times_strict (pos 0) a (up b) parts.1 h in
    subst (λ z. pos 0 <ℤ (a *ℤ z)) (sym parts.0) (omega (arith, ints, scaled))
