-- What the last tableau shows is an equal pair, or a feasible point and a ray.
use Rattle.std.proofs.Common.{◌≡◌, ◌≢◌, ℕ, zero, suc, ◌+◌, ◌-◌, ◌<◌, ◌≤◌, ℤ, pos, negsuc, ◌+ℤ◌, ◌-ℤ◌, ◌*ℤ◌, neg_ℤ, ◌<ℤ◌, ◌≤ℤ◌, ◌⊎◌, ltb, true, false, inl, inr, refl, sym, ◌∙◌, ap, subst, arith}
use Rattle.std.proofs.lemmas.Int.{ints}
use Rattle.std.proofs.lemmas.Bool.{cases_eq, cases_lt, lt-ltb, le-ltb}
use Rattle.rp_farkas.specs.Total.{total}
use Rattle.rp_farkas.specs.LinearProgram.{LinearProgram}
use Rattle.rp_farkas.specs.Point.{IsFeasiblePoint, row_times, value_of}
use Rattle.rp_farkas.specs.Prices.{IsFeasiblePrices, column_times, value_of_prices}
use Rattle.rp_farkas.specs.EqualPair.{IsEqualPair}
use Rattle.rp_farkas.specs.Ray.{IsRay}
use Rattle.rp_farkas.proofs.Totals.{total-same, total-add, total-scale, total-swap, total-mono, total-zero}
use Rattle.rp_farkas.proofs.Integers.{times_mono, times_comm}
use Rattle.rp_simplex.specs.ExactTableau.{ExactTableau, width_of}
use Rattle.rp_simplex.specs.FirstTableau.{first_entry}
use Rattle.rp_simplex.specs.Lexicographic.{IsLexLess}
use Rattle.rp_simplex.specs.Choice.{IsEntering, IsOptimal, IsUnbounded}
use Rattle.rp_simplex.specs.Readout.{IsReadAt, IsPointAt, ArePricesAt, IsRayAt}
use Rattle.rp_simplex.specs.InnerCombined.{delta}
use Rattle.rp_simplex.proofs.Ring.{at, ◌⊕◌, ◌⊖◌, ◌⊗◌, ring}
use Rattle.rp_simplex.proofs.Linear.{delta-same, delta-other, total-delta}
use Rattle.rp_simplex.proofs.Sound.{IsSound, first-right, first-slack}

-- the row whose number is x, or none
pub find_below : (n : ℕ) (b : ℕ → ℕ) (x : ℕ) → ((i : ℕ) × (i < n) × (b i ≡ x)) ⊎ ((i : ℕ) → i < n → b i ≢ x)
find_below zero b x = inr (λ i l. absurd (omega arith))
find_below (suc n) b x = elim (cases_eq (b n) x) [
  | inl e ↦ inl (n, omega arith, e)
  | inr ne ↦ elim (find_below n b x) [
    | inl w ↦ inl (w.0, omega (arith, w.1), w.2)
    | inr none ↦ inr (λ i l. elim (cases_eq i n) [ inl e ↦ λ q. ne (sym (ap b e) ∙ q) | inr other ↦ none i (omega arith) ])
  ]
]

-- no product is negative
pub times_mono_z : (x y f : ℤ) → pos 0 ≤ℤ f → x ≤ℤ y → (x *ℤ f) ≤ℤ (y *ℤ f)
times_mono_z x y (pos n) h l = times_mono x y n l
times_mono_z x y (negsuc n) h l = absurd (omega (arith, ints))

-- the first entry of a lexicographically positive row is not negative
pub right_side : (n : ℕ) (f : ℕ → ℤ) → IsLexLess n (λ _. pos 0) f → pos 0 ≤ℤ f 0
right_side n f h = elim (cases_eq h.place 0) [
  | inl e ↦ let l : pos 0 <ℤ f 0 = subst (λ k. pos 0 <ℤ f k) e h.less in omega (arith, ints)
  | inr ne ↦ let e : pos 0 ≡ f 0 = h.same_before 0 (omega arith) in omega (arith, ints)
]

-- the sum of g where b is x, which is at one place
total-at : (n i : ℕ) (b : ℕ → ℕ) (x : ℕ) (f : ℕ → ℤ) → i < n → b i ≡ x → ((k : ℕ) → k < n → k ≢ i → b k ≢ x) → total n (λ k. delta (b k) x *ℤ f k) ≡ f i
total-at n i b x f l e other =
    total-same n (λ k. delta (b k) x *ℤ f k) (λ k. delta i k *ℤ f k) (λ k m. ap (λ z. z *ℤ f k) (elim (cases_eq i k) [
      | inl q ↦ subst (λ h. delta (b h) x ≡ delta i h) q (ap (λ y. delta y x) e ∙ delta-same x ∙ sym (delta-same i))
      | inr ne ↦ delta-other (b k) x (other k m (λ q. ne (sym q))) ∙ sym (delta-other i k ne)
    ]))
    ∙ total-delta n i f l

total-nowhere : (n : ℕ) (b : ℕ → ℕ) (x : ℕ) (f : ℕ → ℤ) → ((k : ℕ) → k < n → b k ≢ x) → total n (λ k. delta (b k) x *ℤ f k) ≡ pos 0
total-nowhere n b x f none =
    total-same n (λ k. delta (b k) x *ℤ f k) (λ _. pos 0) (λ k m. ap (λ z. z *ℤ f k) (delta-other (b k) x (none k m)) ∙ omega (arith, ints))
    ∙ total-zero n

-- the entry of the row g at column b of the tableau, if it is one of the program's columns, and 0 else
pub part : LinearProgram → (ℕ → ℤ) → ℕ → ℤ
part p g b = total p.cols (λ j. g (suc (p.rows + j)) *ℤ delta b (suc (p.rows + j)))

part-column : (p : LinearProgram) (g : ℕ → ℤ) (b : ℕ) → p.rows < b → b < width_of p → part p g b ≡ g b
unfolding part
part-column p g b above within =
    let j : ℕ = b - suc p.rows in
    let e : b ≡ suc (p.rows + j) = omega arith in
    total-same p.cols (λ i. g (suc (p.rows + i)) *ℤ delta b (suc (p.rows + i))) (λ i. delta j i *ℤ g (suc (p.rows + i))) (λ i m. elim (cases_eq j i) [
      | inl q ↦ ap (λ z. g (suc (p.rows + i)) *ℤ z) (ap (λ y. delta y (suc (p.rows + i))) (e ∙ ap (λ k. suc (p.rows + k)) q) ∙ delta-same (suc (p.rows + i)) ∙ sym (ap (delta j) (sym q) ∙ delta-same j)) ∙ times_comm (g (suc (p.rows + i))) (delta j i)
      | inr ne ↦ ap (λ z. g (suc (p.rows + i)) *ℤ z) (delta-other b (suc (p.rows + i)) (λ q. ne (omega arith)) ∙ sym (delta-other j i ne)) ∙ times_comm (g (suc (p.rows + i))) (delta j i)
    ])
    ∙ total-delta p.cols j (λ i. g (suc (p.rows + i))) (omega arith)
    ∙ ap g (sym e)

part-slack : (p : LinearProgram) (g : ℕ → ℤ) (b : ℕ) → b ≤ p.rows → part p g b ≡ pos 0
unfolding part
part-slack p g b l =
    total-same p.cols (λ j. g (suc (p.rows + j)) *ℤ delta b (suc (p.rows + j))) (λ _. pos 0)
    (λ j m. ap (λ z. g (suc (p.rows + j)) *ℤ z) (delta-other b (suc (p.rows + j)) (omega arith)) ∙ omega (arith, ints))
    ∙ total-zero p.cols

-- ---- the first tableau's entries
ltb_no : (m n : ℕ) → n ≤ m → ltb m n ≡ false
ltb_no m n l = le-ltb m n l

first-column : (p : LinearProgram) (s j : ℕ) → s < p.rows → first_entry p s (suc (p.rows + j)) ≡ p.a s j
first-column p s j hs =
    let no : ltb (p.rows + j) p.rows ≡ false = ltb_no (p.rows + j) p.rows (omega arith) in
    let yes : ltb s p.rows ≡ true = lt-ltb s p.rows hs in
    let back : p.rows + j - p.rows ≡ j = omega arith in
    rw (no, yes, back) refl

first-objective : (p : LinearProgram) (j : ℕ) → first_entry p p.rows (suc (p.rows + j)) ≡ neg_ℤ (p.c j)
first-objective p j =
    let no : ltb (p.rows + j) p.rows ≡ false = ltb_no (p.rows + j) p.rows (omega arith) in
    let none : ltb p.rows p.rows ≡ false = ltb_no p.rows p.rows (omega arith) in
    let back : p.rows + j - p.rows ≡ j = omega arith in
    rw (no, none, back) refl

first-corner : (p : LinearProgram) → first_entry p p.rows 0 ≡ pos 0
first-corner p = let no : ltb p.rows p.rows ≡ false = ltb_no p.rows p.rows (omega arith) in rw no refl

below_by : (x y d : ℤ) → x ≡ pos 0 → y ≡ d → pos 0 ≤ℤ d → x ≤ℤ y
below_by x y d e k l = omega (arith, ints)

same_le : (x y : ℤ) → x ≡ y → x ≤ℤ y
same_le x y e = omega (arith, ints)

delta_at_least : (i k : ℕ) → pos 0 ≤ℤ delta i k
delta_at_least i k = elim (cases_eq i k) [
  | inl e ↦ let one : delta i k ≡ pos 1 = ap (delta i) (sym e) ∙ delta-same i in omega (arith, ints)
  | inr ne ↦ let none : delta i k ≡ pos 0 = delta-other i k ne in omega (arith, ints)
]

part-below : (p : LinearProgram) (s b : ℕ) → s < p.rows → 1 ≤ b → b < width_of p → part p (first_entry p s) b ≤ℤ first_entry p s b
part-below p s zero hs after within = absurd (omega arith)
part-below p s (suc k) hs after within = elim (cases_lt k p.rows) [
  | inl slack ↦
      let none : part p (first_entry p s) (suc k) ≡ pos 0 = part-slack p (first_entry p s) (suc k) (omega arith) in
      let unit : first_entry p s (suc k) ≡ delta s k = first-slack p s k slack in
      let least : pos 0 ≤ℤ delta s k = delta_at_least s k in
      below_by (part p (first_entry p s) (suc k)) (first_entry p s (suc k)) (delta s k) none unit least
  | inr column ↦ same_le (part p (first_entry p s) (suc k)) (first_entry p s (suc k)) (part-column p (first_entry p s) (suc k) (omega arith) within)
]

part-objective : (p : LinearProgram) (b : ℕ) → 1 ≤ b → b < width_of p → part p (first_entry p p.rows) b ≡ first_entry p p.rows b
part-objective p zero after within = absurd (omega arith)
part-objective p (suc k) after within = elim (cases_lt k p.rows) [
  | inl slack ↦ part-slack p (first_entry p p.rows) (suc k) (omega arith) ∙ sym (first-slack p p.rows k slack ∙ delta-other p.rows k (omega arith))
  | inr column ↦ part-column p (first_entry p p.rows) (suc k) (omega arith) within
]

-- ---- plain numbers
both : (w a b x y : ℤ) → w ≡ a +ℤ x → a ≤ℤ b → x ≤ℤ y → w ≤ℤ (b +ℤ y)
both w a b x y e m l = omega (arith, ints)

negated : (c y : ℤ) → (c *ℤ y) *ℤ negsuc 0 ≡ neg_ℤ c *ℤ y
negated c y =
    let flipped : neg_ℤ c ≡ pos 0 -ℤ c = omega (arith, ints) in
    ring ((at c ⊗ at y) ⊗ at (negsuc 0)) ((at (pos 0) ⊖ at c) ⊗ at y) (omega arith) ∙ ap (λ x. x *ℤ y) (sym flipped)

zero_sides : (x y : ℤ) → (x *ℤ pos 0) ≤ℤ (y *ℤ pos 0)
zero_sides x y = omega (arith, ints)

point_row : (w s f b d x den : ℤ) → w ≤ℤ (s +ℤ (f *ℤ pos 0)) → den *ℤ f ≡ s +ℤ (d *ℤ x) → f ≡ b → d ≡ pos 0 → w ≤ℤ (b *ℤ den)
point_row w s f b d x den h e k n =
    let sum : den *ℤ b ≡ s +ℤ (pos 0 *ℤ x) = sym (ap (λ z. den *ℤ z) k) ∙ e ∙ ap (λ z. s +ℤ (z *ℤ x)) n in
    omega (arith, ints, sum)

value_is : (v s q f den d x : ℤ) → v *ℤ negsuc 0 ≡ s +ℤ (q *ℤ pos 0) → den *ℤ f ≡ s +ℤ (d *ℤ x) → f ≡ pos 0 → d ≡ pos 1 → v ≡ x
value_is v s q f den d x h e k n =
    let sum : den *ℤ pos 0 ≡ s +ℤ (pos 1 *ℤ x) = sym (ap (λ z. den *ℤ z) k) ∙ e ∙ ap (λ z. s +ℤ (z *ℤ x)) n in
    omega (arith, ints, sum)

from_difference : (v s q : ℤ) → v ≡ s -ℤ q → pos 0 ≤ℤ v → q ≤ℤ s
from_difference v s q e h = omega (arith, ints)

swapped : (f x : ℤ) → neg_ℤ f *ℤ x ≡ f *ℤ neg_ℤ x
swapped f x =
    let one_side : neg_ℤ f ≡ pos 0 -ℤ f = omega (arith, ints) in
    let other_side : pos 0 -ℤ x ≡ neg_ℤ x = omega (arith, ints) in
    ap (λ z. z *ℤ x) one_side ∙ ring ((at (pos 0) ⊖ at f) ⊗ at x) (at f ⊗ (at (pos 0) ⊖ at x)) (omega arith) ∙ ap (λ z. f *ℤ z) other_side

minus_one : (s : ℤ) → s *ℤ negsuc 0 ≡ neg_ℤ s
minus_one s = omega (arith, ints)

price_column : (v s d den f c : ℤ) → v ≡ s +ℤ (d *ℤ (den *ℤ f)) → d ≡ pos 1 → f ≡ neg_ℤ c → pos 0 ≤ℤ v → (c *ℤ den) ≤ℤ s
price_column v s d den f c e k n h =
    let flipped : neg_ℤ c ≡ pos 0 -ℤ c = omega (arith, ints) in
    let sum : v ≡ s -ℤ (c *ℤ den)
    = e ∙ ap (λ z. s +ℤ (z *ℤ (den *ℤ f))) k ∙ ap (λ z. s +ℤ (pos 1 *ℤ (den *ℤ z))) (n ∙ flipped)
    ∙ ring (at s ⊕ (at (pos 1) ⊗ (at den ⊗ (at (pos 0) ⊖ at c)))) (at s ⊖ (at c ⊗ at den)) (omega arith) in
    from_difference v s (c *ℤ den) sum h

cost_is : (v s d den f : ℤ) → v ≡ s +ℤ (d *ℤ (den *ℤ f)) → f ≡ pos 0 → s ≡ v
cost_is v s d den f e k =
    sym (e ∙ ap (λ z. s +ℤ (d *ℤ (den *ℤ z))) k ∙ ring (at s ⊕ (at d ⊗ (at den ⊗ at (pos 0)))) (at s) (omega arith))

total-negated : (n : ℕ) (f x : ℕ → ℤ) → total n (λ i. f i *ℤ neg_ℤ (x i)) ≡ neg_ℤ (total n (λ i. f i *ℤ x i))
total-negated n f x =
    total-same n (λ i. f i *ℤ neg_ℤ (x i)) (λ i. (f i *ℤ x i) *ℤ negsuc 0) (λ i _. sym (negated (f i) (x i) ∙ swapped (f i) (x i)))
    ∙ total-scale n (λ i. f i *ℤ x i) (negsuc 0)
    ∙ minus_one (total n (λ i. f i *ℤ x i))

ray_row : (w s f d x den : ℤ) → w ≤ℤ (neg_ℤ s +ℤ (f *ℤ den)) → den *ℤ f ≡ s +ℤ (d *ℤ x) → d ≡ pos 0 → w ≤ℤ pos 0
ray_row w s f d x den h e n =
    let sum : den *ℤ f ≡ s +ℤ (pos 0 *ℤ x) = e ∙ ap (λ z. s +ℤ (z *ℤ x)) n in
    omega (arith, ints, sum)

ray_gain : (v s f d x den : ℤ) → v *ℤ negsuc 0 ≡ neg_ℤ s +ℤ (f *ℤ den) → den *ℤ f ≡ s +ℤ (d *ℤ x) → d ≡ pos 1 → x <ℤ pos 0 → pos 0 <ℤ v
ray_gain v s f d x den h e n l =
    let sum : den *ℤ f ≡ s +ℤ (pos 1 *ℤ x) = e ∙ ap (λ z. s +ℤ (z *ℤ x)) n in
    omega (arith, ints, sum)

spread : (n : ℕ) (g : ℤ) (d f : ℕ → ℤ) (e z : ℤ) → g *ℤ (total n (λ i. d i *ℤ f i) +ℤ (e *ℤ z)) ≡ total n (λ i. (g *ℤ d i) *ℤ f i) +ℤ ((g *ℤ e) *ℤ z)
spread n g d f e z =
    ring (at g ⊗ (at (total n (λ i. d i *ℤ f i)) ⊕ (at e ⊗ at z))) ((at (total n (λ i. d i *ℤ f i)) ⊗ at g) ⊕ ((at g ⊗ at e) ⊗ at z)) (omega arith)
    ∙ ap (λ x. x +ℤ ((g *ℤ e) *ℤ z))
    (sym (total-scale n (λ i. d i *ℤ f i) g)
    ∙ total-same n (λ i. (d i *ℤ f i) *ℤ g) (λ i. (g *ℤ d i) *ℤ f i) (λ i _. ring ((at (d i) ⊗ at (f i)) ⊗ at g) ((at g ⊗ at (d i)) ⊗ at (f i)) (omega arith)))

module _ (p : LinearProgram) (t : ExactTableau) (sound : IsSound p t) where
  -- no two rows have one basic column
  pub distinct : (i k : ℕ) → i < p.rows → k < p.rows → k ≢ i → t.basis k ≢ t.basis i
  distinct i k hi hk ne e =
      let own : t.at i (t.basis i) ≡ delta i i *ℤ pos t.den = sound.unit i i (omega arith) hi in
      let other : t.at i (t.basis k) ≡ delta i k *ℤ pos t.den = sound.unit i k (omega arith) hk in
      let one : t.at i (t.basis i) ≡ pos t.den = own ∙ ap (λ z. z *ℤ pos t.den) (delta-same i) ∙ omega (arith, ints) in
      let nothing : t.at i (t.basis k) ≡ pos 0 = other ∙ ap (λ z. z *ℤ pos t.den) (delta-other i k (λ q. ne (sym q))) ∙ omega (arith, ints) in
      let same : t.at i (t.basis k) ≡ t.at i (t.basis i) = ap (t.at i) e in
      let d = sound.den_positive in
      omega (arith, ints)

  -- the program's columns of a row g, times what is read, is the sum over the basic columns and the entering one
  module _ (f : ℕ → ℤ) (c : ℕ) (z : ℤ) (y : ℕ → ℕ) (read : IsReadAt p.rows p.cols t f c z y) (fresh : (i : ℕ) → i < p.rows → t.basis i ≢ c) where
    numerator : (j : ℕ) → j < p.cols → pos (y j) ≡ total p.rows (λ i. delta (t.basis i) (suc (p.rows + j)) *ℤ f i) +ℤ (delta c (suc (p.rows + j)) *ℤ z)
    numerator j hj = elim (find_below p.rows t.basis (suc (p.rows + j))) [
      | inl w ↦ read.basic j w.0 hj w.1 w.2
          ∙ sym (ap (λ x. x +ℤ (delta c (suc (p.rows + j)) *ℤ z)) (total-at p.rows w.0 t.basis (suc (p.rows + j)) f w.1 w.2 (λ k hk ne q. distinct w.0 k w.1 hk ne (q ∙ sym w.2)))
          ∙ ap (λ x. f w.0 +ℤ (x *ℤ z)) (delta-other c (suc (p.rows + j)) (λ q. fresh w.0 w.1 (w.2 ∙ sym q)))
          ∙ omega (arith, ints))
      | inr none ↦ elim (cases_eq c (suc (p.rows + j))) [
        | inl e ↦ read.entering j hj e
            ∙ sym (ap (λ x. x +ℤ (delta c (suc (p.rows + j)) *ℤ z)) (total-nowhere p.rows t.basis (suc (p.rows + j)) f none)
            ∙ ap (λ x. pos 0 +ℤ (x *ℤ z)) (ap (λ q. delta q (suc (p.rows + j))) e ∙ delta-same (suc (p.rows + j)))
            ∙ omega (arith, ints))
        | inr ne ↦ ap pos (read.others j hj none ne)
            ∙ sym (ap (λ x. x +ℤ (delta c (suc (p.rows + j)) *ℤ z)) (total-nowhere p.rows t.basis (suc (p.rows + j)) f none)
            ∙ ap (λ x. pos 0 +ℤ (x *ℤ z)) (delta-other c (suc (p.rows + j)) ne)
            ∙ omega (arith, ints))
      ]
    ]

    gathered : (g : ℕ → ℤ) → total p.cols (λ j. g (suc (p.rows + j)) *ℤ pos (y j)) ≡ total p.rows (λ i. part p g (t.basis i) *ℤ f i) +ℤ (part p g c *ℤ z)
    unfolding part
    gathered g =
        total-same p.cols (λ j. g (suc (p.rows + j)) *ℤ pos (y j))
        (λ j. total p.rows (λ i. (g (suc (p.rows + j)) *ℤ delta (t.basis i) (suc (p.rows + j))) *ℤ f i) +ℤ ((g (suc (p.rows + j)) *ℤ delta c (suc (p.rows + j))) *ℤ z))
        (λ j hj. ap (λ x. g (suc (p.rows + j)) *ℤ x) (numerator j hj) ∙ spread p.rows (g (suc (p.rows + j))) (λ i. delta (t.basis i) (suc (p.rows + j))) f (delta c (suc (p.rows + j))) z)
        ∙ total-add p.cols (λ j. total p.rows (λ i. (g (suc (p.rows + j)) *ℤ delta (t.basis i) (suc (p.rows + j))) *ℤ f i)) (λ j. (g (suc (p.rows + j)) *ℤ delta c (suc (p.rows + j))) *ℤ z)
        ∙ ap (λ x. x +ℤ total p.cols (λ j. (g (suc (p.rows + j)) *ℤ delta c (suc (p.rows + j))) *ℤ z))
        (total-swap p.cols p.rows (λ j i. (g (suc (p.rows + j)) *ℤ delta (t.basis i) (suc (p.rows + j))) *ℤ f i)
        ∙ total-same p.rows (λ i. total p.cols (λ j. (g (suc (p.rows + j)) *ℤ delta (t.basis i) (suc (p.rows + j))) *ℤ f i)) (λ i. total p.cols (λ j. g (suc (p.rows + j)) *ℤ delta (t.basis i) (suc (p.rows + j))) *ℤ f i)
        (λ i _. total-scale p.cols (λ j. g (suc (p.rows + j)) *ℤ delta (t.basis i) (suc (p.rows + j))) (f i)))
        ∙ ap (λ x. total p.rows (λ i. total p.cols (λ j. g (suc (p.rows + j)) *ℤ delta (t.basis i) (suc (p.rows + j))) *ℤ f i) +ℤ x)
        (total-scale p.cols (λ j. g (suc (p.rows + j)) *ℤ delta c (suc (p.rows + j))) z)

    row_at_most : (s : ℕ) → s < p.rows → ((i : ℕ) → i < p.rows → pos 0 ≤ℤ f i) → (part p (first_entry p s) c *ℤ z) ≤ℤ (first_entry p s c *ℤ z)
        → row_times p s y ≤ℤ (total p.rows (λ i. first_entry p s (t.basis i) *ℤ f i) +ℤ (first_entry p s c *ℤ z))
    row_at_most s hs not_negative last =
        let e : row_times p s y ≡ total p.rows (λ i. part p (first_entry p s) (t.basis i) *ℤ f i) +ℤ (part p (first_entry p s) c *ℤ z)
        = total-same p.cols (λ j. p.a s j *ℤ pos (y j)) (λ j. first_entry p s (suc (p.rows + j)) *ℤ pos (y j)) (λ j _. ap (λ x. x *ℤ pos (y j)) (sym (first-column p s j hs)))
        ∙ gathered (first_entry p s) in
        let m : total p.rows (λ i. part p (first_entry p s) (t.basis i) *ℤ f i) ≤ℤ total p.rows (λ i. first_entry p s (t.basis i) *ℤ f i)
        = total-mono p.rows (λ i. part p (first_entry p s) (t.basis i) *ℤ f i) (λ i. first_entry p s (t.basis i) *ℤ f i)
        (λ i hi. times_mono_z (part p (first_entry p s) (t.basis i)) (first_entry p s (t.basis i)) (f i) (not_negative i hi) (part-below p s (t.basis i) hs (sound.basis_after i hi) (sound.basis_within i hi))) in
        both (row_times p s y) (total p.rows (λ i. part p (first_entry p s) (t.basis i) *ℤ f i)) (total p.rows (λ i. first_entry p s (t.basis i) *ℤ f i)) (part p (first_entry p s) c *ℤ z) (first_entry p s c *ℤ z) e m last

    -- the value, negated
    value_read : (value_of p y *ℤ negsuc 0) ≡ total p.rows (λ i. first_entry p p.rows (t.basis i) *ℤ f i) +ℤ (part p (first_entry p p.rows) c *ℤ z)
    value_read =
        sym (total-scale p.cols (λ j. p.c j *ℤ pos (y j)) (negsuc 0))
        ∙ total-same p.cols (λ j. (p.c j *ℤ pos (y j)) *ℤ negsuc 0) (λ j. first_entry p p.rows (suc (p.rows + j)) *ℤ pos (y j))
        (λ j _. negated (p.c j) (pos (y j)) ∙ ap (λ x. x *ℤ pos (y j)) (sym (first-objective p j)))
        ∙ gathered (first_entry p p.rows)
        ∙ ap (λ x. x +ℤ (part p (first_entry p p.rows) c *ℤ z))
        (total-same p.rows (λ i. part p (first_entry p p.rows) (t.basis i) *ℤ f i) (λ i. first_entry p p.rows (t.basis i) *ℤ f i)
        (λ i hi. ap (λ x. x *ℤ f i) (part-objective p (t.basis i) (sound.basis_after i hi) (sound.basis_within i hi))))

  -- ---- the point
  module _ (y : ℕ → ℕ) (shown : IsPointAt p t y) where
    not_zero : (i : ℕ) → i < p.rows → t.basis i ≢ 0
    not_zero i hi e = let l = sound.basis_after i hi in omega arith

    pub point_feasible : IsFeasiblePoint p t.den y
    point_feasible = record {
      den_positive = sound.den_positive;
      rows_hold = λ s hs. point_row (row_times p s y) (total p.rows (λ i. first_entry p s (t.basis i) *ℤ t.at i 0)) (first_entry p s 0) (p.b s) (delta p.rows s) (t.at p.rows 0) (pos t.den)
          (row_at_most (λ i. t.at i 0) 0 (pos 0) y shown not_zero s hs (λ i hi. right_side (width_of p) (t.at i) (sound.rows_positive i hi))
          (zero_sides (part p (first_entry p s) 0) (first_entry p s 0)))
          (sound.recovered s 0 (omega arith) (omega arith)) (first-right p s hs) (delta-other p.rows s (omega arith));
    }

    pub point_value : value_of p y ≡ t.at p.rows 0
    point_value = value_is (value_of p y) (total p.rows (λ i. first_entry p p.rows (t.basis i) *ℤ t.at i 0)) (part p (first_entry p p.rows) 0) (first_entry p p.rows 0) (pos t.den) (delta p.rows p.rows) (t.at p.rows 0)
        (value_read (λ i. t.at i 0) 0 (pos 0) y shown not_zero) (sound.recovered p.rows 0 (omega arith) (omega arith)) (first-corner p) (delta-same p.rows)

  -- ---- the prices
  module _ (x : ℕ → ℕ) (optimal : IsOptimal p.rows (width_of p) t) (shown : ArePricesAt p t x) where
    pub prices_feasible : IsFeasiblePrices p t.den x
    prices_feasible = record {
      den_positive = sound.den_positive;
      columns_hold = λ j hj. price_column (t.at p.rows (suc (p.rows + j))) (column_times p j x) (delta p.rows p.rows) (pos t.den) (first_entry p p.rows (suc (p.rows + j))) (p.c j)
          (sound.combined p.rows (suc (p.rows + j)) (omega arith) (omega arith)
          ∙ ap (λ z. z +ℤ (delta p.rows p.rows *ℤ (pos t.den *ℤ first_entry p p.rows (suc (p.rows + j)))))
          (total-same p.rows (λ s. t.at p.rows (suc s) *ℤ first_entry p s (suc (p.rows + j))) (λ s. p.a s j *ℤ pos (x s))
          (λ s hs. ap (λ z. z *ℤ first_entry p s (suc (p.rows + j))) (sym (shown s hs)) ∙ ap (λ z. pos (x s) *ℤ z) (first-column p s j hs) ∙ times_comm (pos (x s)) (p.a s j))))
          (delta-same p.rows) (first-objective p j) (optimal (suc (p.rows + j)) (omega arith) (omega arith));
    }

    pub prices_cost : value_of_prices p x ≡ t.at p.rows 0
    prices_cost = cost_is (t.at p.rows 0) (value_of_prices p x) (delta p.rows p.rows) (pos t.den) (first_entry p p.rows 0)
        (sound.combined p.rows 0 (omega arith) (omega arith)
        ∙ ap (λ z. z +ℤ (delta p.rows p.rows *ℤ (pos t.den *ℤ first_entry p p.rows 0)))
        (total-same p.rows (λ s. t.at p.rows (suc s) *ℤ first_entry p s 0) (λ s. p.b s *ℤ pos (x s))
        (λ s hs. ap (λ z. z *ℤ first_entry p s 0) (sym (shown s hs)) ∙ ap (λ z. pos (x s) *ℤ z) (first-right p s hs) ∙ times_comm (pos (x s)) (p.b s))))
        (first-corner p)

  -- ---- the ray
  module _ (c : ℕ) (y : ℕ → ℕ) (entering : IsEntering p.rows (width_of p) t c) (unbounded : IsUnbounded p.rows t c) (shown : IsRayAt p t c y) where
    fresh : (i : ℕ) → i < p.rows → t.basis i ≢ c
    fresh i hi e =
        let none : t.at p.rows c ≡ pos 0 = ap (t.at p.rows) (sym e) ∙ sound.unit p.rows i (omega arith) hi ∙ ap (λ z. z *ℤ pos t.den) (delta-other p.rows i (omega arith)) ∙ omega (arith, ints) in
        let n = entering.negative in
        omega (arith, ints)

    pub is_ray : IsRay p y
    is_ray = record {
      rows_hold = λ s hs. ray_row (row_times p s y) (total p.rows (λ i. first_entry p s (t.basis i) *ℤ t.at i c)) (first_entry p s c) (delta p.rows s) (t.at p.rows c) (pos t.den)
          (subst (λ q. row_times p s y ≤ℤ (q +ℤ (first_entry p s c *ℤ pos t.den))) (total-negated p.rows (λ i. first_entry p s (t.basis i)) (λ i. t.at i c))
          (row_at_most (λ i. neg_ℤ (t.at i c)) c (pos t.den) y shown fresh s hs (λ i hi. let l = unbounded i hi in omega (arith, ints))
          (times_mono (part p (first_entry p s) c) (first_entry p s c) t.den (part-below p s c hs entering.after_right_sides entering.in_width))))
          (sound.recovered s c (omega arith) entering.in_width) (delta-other p.rows s (omega arith));
      gains = ray_gain (value_of p y) (total p.rows (λ i. first_entry p p.rows (t.basis i) *ℤ t.at i c)) (first_entry p p.rows c) (delta p.rows p.rows) (t.at p.rows c) (pos t.den)
          (value_read (λ i. neg_ℤ (t.at i c)) c (pos t.den) y shown fresh
          ∙ ap (λ q. q +ℤ (part p (first_entry p p.rows) c *ℤ pos t.den)) (total-negated p.rows (λ i. first_entry p p.rows (t.basis i)) (λ i. t.at i c))
          ∙ ap (λ q. neg_ℤ (total p.rows (λ i. first_entry p p.rows (t.basis i) *ℤ t.at i c)) +ℤ (q *ℤ pos t.den)) (part-objective p c entering.after_right_sides entering.in_width))
          (sound.recovered p.rows c (omega arith) entering.in_width) (delta-same p.rows) entering.negative;
    }

pub equal_pair : (p : LinearProgram) (t : ExactTableau) (y x : ℕ → ℕ) → IsSound p t → IsOptimal p.rows (width_of p) t → IsPointAt p t y → ArePricesAt p t x → IsEqualPair p t.den y x
equal_pair p t y x sound optimal point prices = record {
  point = point_feasible p t sound y point;
  prices = prices_feasible p t sound x optimal prices;
  equal = point_value p t sound y point ∙ sym (prices_cost p t sound x optimal prices);
}
