-- A pivot keeps what every tableau of a run keeps (`pivot_sound`): each part of it is an equation of plain numbers,
-- with the divisor taken out at the end. The new objective row is the old one and a positive multiple of the pivot row,
-- which is lexicographically positive, so it rises (`objective_rises`).
use Rattle.std.proofs.Common.{◌≡◌, ◌≢◌, ℕ, zero, suc, ◌*◌, ◌<◌, ◌≤◌, ℤ, pos, negsuc, ◌+ℤ◌, ◌-ℤ◌, ◌*ℤ◌, neg_ℤ, ◌<ℤ◌, ◌≤ℤ◌, ◌⊎◌, eqb, true, false, inl, inr, refl, sym, ◌∙◌, ap, subst, arith}
use Rattle.std.proofs.lemmas.Int.{ints}
use Rattle.std.proofs.lemmas.Bool.{cases_eq, cases_lt, eq-eqb, ne_eqb}
use Rattle.rp_farkas.specs.Total.{total}
use Rattle.rp_farkas.specs.LinearProgram.{LinearProgram}
use Rattle.rp_farkas.proofs.Totals.{total-same, total-scale}
use Rattle.rp_simplex.specs.ExactTableau.{ExactTableau, width_of}
use Rattle.rp_simplex.specs.FirstTableau.{first_entry}
use Rattle.rp_simplex.specs.Lexicographic.{IsLexLess}
use Rattle.rp_simplex.specs.Choice.{IsEntering, IsLeaving}
use Rattle.rp_simplex.specs.Pivot.{cleared, IsPivot}
use Rattle.rp_simplex.specs.InnerCombined.{delta}
use Rattle.rp_simplex.proofs.Ring.{at, ◌⊕◌, ◌⊖◌, ◌⊗◌, ring}
use Rattle.rp_simplex.proofs.Linear.{delta-same, delta-other, total-cleared, total-weighed, total-scaled, total-changed, cancel, cancel_less, as_pos, positive_times}
use Rattle.rp_simplex.proofs.Sound.{IsSound, sign_cases}

pub cleared-row : (t : ExactTableau) (r c j : ℕ) → cleared t r c r j ≡ t.at r j *ℤ pos t.den
cleared-row t r c j = let here : eqb r r ≡ true = eq-eqb r r refl in rw here refl

pub cleared-other : (t : ExactTableau) (r c i j : ℕ) → i ≢ r → cleared t r c i j ≡ t.at i j *ℤ t.at r c -ℤ t.at i c *ℤ t.at r j
cleared-other t r c i j ne = let other : eqb i r ≡ false = ne_eqb i r ne in rw other refl

-- ---- lexicographically positive rows
none : (x y : ℤ) → y ≡ x → x -ℤ y ≡ pos 0
none x y e = omega (arith, ints)

above : (x y : ℤ) → y <ℤ x → pos 0 <ℤ (x -ℤ y)
above x y h = omega (arith, ints)

both_zero : (x y : ℤ) → pos 0 ≡ x → pos 0 ≡ y → pos 0 ≡ x +ℤ y
both_zero x y e f = omega (arith, ints)

more : (x y : ℤ) → pos 0 <ℤ x → pos 0 ≡ y → pos 0 <ℤ (x +ℤ y)
more x y h e = omega (arith, ints)

two : (x y : ℤ) → pos 0 <ℤ x → pos 0 <ℤ y → pos 0 <ℤ (x +ℤ y)
two x y h k = omega (arith, ints)

less_more : (x y : ℤ) → pos 0 ≡ x → pos 0 <ℤ y → pos 0 <ℤ (x +ℤ y)
less_more x y h k = omega (arith, ints)

left_factor : (a b : ℕ) → 0 < a * b → 0 < a
left_factor zero b h = absurd (omega arith)
left_factor (suc a) b h = omega arith

right_factor : (a b : ℕ) → 0 < a * b → 0 < b
right_factor a zero h = absurd (omega arith)
right_factor a (suc b) h = omega arith

-- f times a positive number is g
row_up : (n : ℕ) (f g : ℕ → ℤ) (d : ℤ) → pos 0 <ℤ d → ((j : ℕ) → j < n → g j ≡ f j *ℤ d) → IsLexLess n (λ _. pos 0) f → IsLexLess n (λ _. pos 0) g
row_up n f g d hd e h = record {
  place = h.place;
  in_range = h.in_range;
  same_before = λ k l. sym (e k (omega (arith, h.in_range)) ∙ ap (λ z. z *ℤ d) (sym (h.same_before k l)) ∙ ring (at (pos 0) ⊗ at d) (at (pos 0)) (omega arith));
  less = subst (λ z. pos 0 <ℤ z) (sym (e h.place h.in_range)) (positive_times (f h.place) d h.less hd);
}

-- f is g times a positive number
row_down : (n : ℕ) (f g : ℕ → ℤ) (d : ℕ) → 0 < d → ((j : ℕ) → j < n → f j ≡ g j *ℤ pos d) → IsLexLess n (λ _. pos 0) f → IsLexLess n (λ _. pos 0) g
row_down n f g d hd e h = record {
  place = h.place;
  in_range = h.in_range;
  same_before = λ k l. cancel (pos 0) (g k) d hd (ring (at (pos 0) ⊗ at (pos d)) (at (pos 0)) (omega arith) ∙ h.same_before k l ∙ e k (omega (arith, h.in_range)));
  less = cancel_less (pos 0) (g h.place) d (subst (λ z. (pos 0 *ℤ pos d) <ℤ z) (e h.place h.in_range)
      (subst (λ z. z <ℤ f h.place) (sym (ring (at (pos 0) ⊗ at (pos d)) (at (pos 0)) (omega arith))) h.less));
}

-- the difference of a greater and a lesser row
row_difference : (n : ℕ) (f g h : ℕ → ℤ) → ((j : ℕ) → j < n → h j ≡ g j -ℤ f j) → IsLexLess n f g → IsLexLess n (λ _. pos 0) h
row_difference n f g h e l = record {
  place = l.place;
  in_range = l.in_range;
  same_before = λ k m. sym (e k (omega (arith, l.in_range)) ∙ none (g k) (f k) (l.same_before k m));
  less = subst (λ z. pos 0 <ℤ z) (sym (e l.place l.in_range)) (above (g l.place) (f l.place) l.less);
}

-- the sum of two positive rows
row_sum : (n : ℕ) (f g h : ℕ → ℤ) → ((j : ℕ) → j < n → h j ≡ f j +ℤ g j) → IsLexLess n (λ _. pos 0) f → IsLexLess n (λ _. pos 0) g → IsLexLess n (λ _. pos 0) h
row_sum n f g h e a b = elim (cases_lt a.place b.place) [
  | inl first ↦ record {
    place = a.place;
    in_range = a.in_range;
    same_before = λ k l. both_zero (f k) (g k) (a.same_before k l) (b.same_before k (omega arith)) ∙ sym (e k (omega (arith, a.in_range)));
    less = subst (λ z. pos 0 <ℤ z) (sym (e a.place a.in_range)) (more (f a.place) (g a.place) a.less (b.same_before a.place first));
  }
  | inr later ↦ elim (cases_eq a.place b.place) [
    | inl same ↦ record {
      place = a.place;
      in_range = a.in_range;
      same_before = λ k l. both_zero (f k) (g k) (a.same_before k l) (b.same_before k (omega arith)) ∙ sym (e k (omega (arith, a.in_range)));
      less = subst (λ z. pos 0 <ℤ z) (sym (e a.place a.in_range)) (two (f a.place) (g a.place) a.less (subst (λ k. pos 0 <ℤ g k) (sym same) b.less));
    }
    | inr other ↦ record {
      place = b.place;
      in_range = b.in_range;
      same_before = λ k l. both_zero (f k) (g k) (a.same_before k (omega arith)) (b.same_before k l) ∙ sym (e k (omega (arith, b.in_range)));
      less = subst (λ z. pos 0 <ℤ z) (sym (e b.place b.in_range)) (less_more (f b.place) (g b.place) (a.same_before b.place (omega arith)) b.less);
    }
  ]
]

-- ---- equations of plain numbers
row_core : (x s d y den q : ℤ) → x ≡ s +ℤ (d *ℤ y) → d ≡ pos 0 → x *ℤ den ≡ (s *ℤ den) +ℤ (d *ℤ q)
row_core x s d y den q e f =
    ap (λ z. z *ℤ den) e ∙ ap (λ z. (s +ℤ (z *ℤ y)) *ℤ den) f
    ∙ ring ((at s ⊕ (at (pos 0) ⊗ at y)) ⊗ at den) ((at s ⊗ at den) ⊕ (at (pos 0) ⊗ at q)) (omega arith)
    ∙ sym (ap (λ z. (s *ℤ den) +ℤ (z *ℤ q)) f)

plain_row : (x s d y : ℤ) → x ≡ s +ℤ (d *ℤ y) → d ≡ pos 0 → x ≡ s
plain_row x s d y e f = e ∙ ap (λ z. s +ℤ (z *ℤ y)) f ∙ ring (at s ⊕ (at (pos 0) ⊗ at y)) (at s) (omega arith)

other_core : (x y s t d den m p q : ℤ) → x ≡ s +ℤ (d *ℤ (den *ℤ m)) → y ≡ t → (x *ℤ p) -ℤ (q *ℤ y) ≡ ((s *ℤ p) -ℤ (q *ℤ t)) +ℤ (d *ℤ ((den *ℤ p) *ℤ m))
other_core x y s t d den m p q e f =
    ap (λ z. (z *ℤ p) -ℤ (q *ℤ y)) e ∙ ap (λ z. ((s +ℤ (d *ℤ (den *ℤ m))) *ℤ p) -ℤ (q *ℤ z)) f
    ∙ ring
    (((at s ⊕ (at d ⊗ (at den ⊗ at m))) ⊗ at p) ⊖ (at q ⊗ at t))
    (((at s ⊗ at p) ⊖ (at q ⊗ at t)) ⊕ (at d ⊗ ((at den ⊗ at p) ⊗ at m)))
    (omega arith)

regroup : (s d m : ℤ) (den g : ℕ) → (s *ℤ pos g) +ℤ (d *ℤ (pos (den * g) *ℤ m)) ≡ (s +ℤ (d *ℤ (pos den *ℤ m))) *ℤ pos g
regroup s d m den g = ring ((at s ⊗ at (pos g)) ⊕ (at d ⊗ ((at (pos den) ⊗ at (pos g)) ⊗ at m))) ((at s ⊕ (at d ⊗ (at (pos den) ⊗ at m))) ⊗ at (pos g)) (omega arith)

recover_core : (s t d x y den f h p q : ℤ) → den *ℤ f ≡ s +ℤ (d *ℤ x) → den *ℤ h ≡ t +ℤ (d *ℤ y)
    → (den *ℤ p) *ℤ f ≡ (((s *ℤ p) -ℤ (t *ℤ q)) +ℤ (h *ℤ (q *ℤ den))) +ℤ (d *ℤ ((x *ℤ p) -ℤ (y *ℤ q)))
recover_core s t d x y den f h p q e k =
    ring ((at den ⊗ at p) ⊗ at f) ((at den ⊗ at f) ⊗ at p) (omega arith)
    ∙ ap (λ z. z *ℤ p) e
    ∙ ring ((at s ⊕ (at d ⊗ at x)) ⊗ at p) ((((at s ⊗ at p) ⊖ (at t ⊗ at q)) ⊕ ((at t ⊕ (at d ⊗ at y)) ⊗ at q)) ⊕ (at d ⊗ ((at x ⊗ at p) ⊖ (at y ⊗ at q)))) (omega arith)
    ∙ ap (λ z. (((s *ℤ p) -ℤ (t *ℤ q)) +ℤ (z *ℤ q)) +ℤ (d *ℤ ((x *ℤ p) -ℤ (y *ℤ q)))) (sym k)
    ∙ ap (λ z. (((s *ℤ p) -ℤ (t *ℤ q)) +ℤ z) +ℤ (d *ℤ ((x *ℤ p) -ℤ (y *ℤ q)))) (ring ((at den ⊗ at h) ⊗ at q) (at h ⊗ (at q ⊗ at den)) (omega arith))

recover_regroup : (f s d x : ℤ) (den g : ℕ) → pos (den * g) *ℤ f ≡ (s *ℤ pos g) +ℤ (d *ℤ (x *ℤ pos g)) → (pos den *ℤ f) *ℤ pos g ≡ (s +ℤ (d *ℤ x)) *ℤ pos g
recover_regroup f s d x den g e =
    ring ((at (pos den) ⊗ at f) ⊗ at (pos g)) ((at (pos den) ⊗ at (pos g)) ⊗ at f) (omega arith) ∙ e
    ∙ ring ((at s ⊗ at (pos g)) ⊕ (at d ⊗ (at x ⊗ at (pos g)))) ((at s ⊕ (at d ⊗ at x)) ⊗ at (pos g)) (omega arith)

vanishes : (f q p : ℤ) → f *ℤ ((q *ℤ p) -ℤ (p *ℤ q)) ≡ pos 0
vanishes f q p = ring (at f ⊗ ((at q ⊗ at p) ⊖ (at p ⊗ at q))) (at (pos 0)) (omega arith)

zero_unit : (d den p : ℤ) → d ≡ pos 0 → (d *ℤ den) *ℤ den ≡ d *ℤ (den *ℤ p)
zero_unit d den p e = subst (λ z. (z *ℤ den) *ℤ den ≡ z *ℤ (den *ℤ p)) (sym e) (ring ((at (pos 0) ⊗ at den) ⊗ at den) (at (pos 0) ⊗ (at den ⊗ at p)) (omega arith))

kept_unit : (d z den p a : ℤ) → z ≡ pos 0 → ((d *ℤ den) *ℤ p) -ℤ (a *ℤ (z *ℤ den)) ≡ d *ℤ (den *ℤ p)
kept_unit d z den p a e = ap (λ x. ((d *ℤ den) *ℤ p) -ℤ (a *ℤ (x *ℤ den))) e ∙ ring (((at d ⊗ at den) ⊗ at p) ⊖ (at a ⊗ (at (pos 0) ⊗ at den))) (at d ⊗ (at den ⊗ at p)) (omega arith)

sign_split : (z : ℤ) → (pos 0 <ℤ z) ⊎ (z ≤ℤ pos 0)
sign_split (pos zero) = inr (omega (arith, ints))
sign_split (pos (suc n)) = inl (omega (arith, ints))
sign_split (negsuc n) = inr (omega (arith, ints))

drop_term : (x a y : ℤ) → neg_ℤ a ≡ pos 0 → x -ℤ (a *ℤ y) ≡ x
drop_term x a y e =
    let none_there : a ≡ pos 0 = omega (arith, ints) in
    ap (λ z. x -ℤ (z *ℤ y)) none_there ∙ ring (at x ⊖ (at (pos 0) ⊗ at y)) (at x) (omega arith)

as_sum : (x a y : ℤ) → x -ℤ (a *ℤ y) ≡ x +ℤ (y *ℤ neg_ℤ a)
as_sum x a y =
    let product : y *ℤ (pos 0 -ℤ a) ≡ pos 0 -ℤ (a *ℤ y) = ring (at y ⊗ (at (pos 0) ⊖ at a)) (at (pos 0) ⊖ (at a ⊗ at y)) (omega arith) in
    let negated : pos 0 -ℤ a ≡ neg_ℤ a = omega (arith, ints) in
    let moved = subst (λ z. y *ℤ z ≡ pos 0 -ℤ (a *ℤ y)) negated product in
    omega (arith, ints, moved)

rise : (x y q p den v : ℤ) (b g : ℕ) → (x *ℤ p) -ℤ (y *ℤ q) ≡ v *ℤ pos g → den *ℤ p ≡ pos (b * g)
    → q *ℤ (neg_ℤ y *ℤ den) ≡ ((v *ℤ den) -ℤ (x *ℤ pos b)) *ℤ pos g
rise x y q p den v b g e f =
    let negated : neg_ℤ y ≡ pos 0 -ℤ y = omega (arith, ints) in
    ap (λ z. q *ℤ (z *ℤ den)) negated
    ∙ ring (at q ⊗ ((at (pos 0) ⊖ at y) ⊗ at den)) ((((at x ⊗ at p) ⊖ (at y ⊗ at q)) ⊗ at den) ⊖ (at x ⊗ (at den ⊗ at p))) (omega arith)
    ∙ ap (λ z. (z *ℤ den) -ℤ (x *ℤ (den *ℤ p))) e
    ∙ ap (λ z. ((v *ℤ pos g) *ℤ den) -ℤ (x *ℤ z)) f
    ∙ ring (((at v ⊗ at (pos g)) ⊗ at den) ⊖ (at x ⊗ (at (pos b) ⊗ at (pos g)))) (((at v ⊗ at den) ⊖ (at x ⊗ at (pos b))) ⊗ at (pos g)) (omega arith)

same_rows : (x y : ℤ) → pos 0 ≡ y -ℤ x → x ≡ y
same_rows x y e = omega (arith, ints)

less_rows : (x y : ℤ) → pos 0 <ℤ (y -ℤ x) → x <ℤ y
less_rows x y h = omega (arith, ints)

row_less : (n : ℕ) (f g : ℕ → ℤ) → IsLexLess n (λ _. pos 0) (λ j. g j -ℤ f j) → IsLexLess n f g
row_less n f g h = record {
  place = h.place;
  in_range = h.in_range;
  same_before = λ k l. same_rows (f k) (g k) (h.same_before k l);
  less = less_rows (f h.place) (g h.place) h.less;
}

-- ---- the pivot
module _ (p : LinearProgram) (t : ExactTableau) (r c : ℕ) (u : ExactTableau) (sound : IsSound p t)
    (entering : IsEntering p.rows (width_of p) t c) (leaving : IsLeaving p.rows (width_of p) t c r)
    (pivot : IsPivot p.rows (width_of p) t r c u) where
  pub den_times : 0 < u.den * pivot.divisor
  den_times =
      let pivot_entry = as_pos (t.at r c) leaving.positive in
      let product : pos 0 <ℤ (pos t.den *ℤ t.at r c) = positive_times (pos t.den) (t.at r c) (let d = sound.den_positive in omega (arith, ints)) leaving.positive in
      let moved : pos 0 <ℤ pos (u.den * pivot.divisor) = subst (λ z. pos 0 <ℤ z) pivot.den product in
      omega (arith, ints)

  pub divisor_positive : 0 < pivot.divisor
  divisor_positive = right_factor u.den pivot.divisor den_times

  pub next_den_positive : 0 < u.den
  next_den_positive = left_factor u.den pivot.divisor den_times

  not_objective : delta p.rows r ≡ pos 0
  not_objective = delta-other p.rows r (let l = leaving.in_rows in omega arith)

  combined_core : (i k : ℕ) → i ≤ p.rows → k < width_of p
      → cleared t r c i k ≡ total p.rows (λ s. cleared t r c i (suc s) *ℤ first_entry p s k) +ℤ (delta p.rows i *ℤ ((pos t.den *ℤ t.at r c) *ℤ first_entry p p.rows k))
  combined_core i k hi hk = elim (cases_eq i r) [
    | inl e ↦ subst (λ h. cleared t r c h k ≡ total p.rows (λ s. cleared t r c h (suc s) *ℤ first_entry p s k) +ℤ (delta p.rows h *ℤ ((pos t.den *ℤ t.at r c) *ℤ first_entry p p.rows k))) (sym e)
        (cleared-row t r c k
        ∙ row_core (t.at r k) (total p.rows (λ s. t.at r (suc s) *ℤ first_entry p s k)) (delta p.rows r) (pos t.den *ℤ first_entry p p.rows k) (pos t.den) ((pos t.den *ℤ t.at r c) *ℤ first_entry p p.rows k)
        (sound.combined r k (let l = leaving.in_rows in omega arith) hk) not_objective
        ∙ ap (λ z. z +ℤ (delta p.rows r *ℤ ((pos t.den *ℤ t.at r c) *ℤ first_entry p p.rows k)))
        (sym (total-same p.rows (λ s. cleared t r c r (suc s) *ℤ first_entry p s k) (λ s. (t.at r (suc s) *ℤ pos t.den) *ℤ first_entry p s k) (λ s _. ap (λ z. z *ℤ first_entry p s k) (cleared-row t r c (suc s)))
        ∙ total-scaled p.rows (λ s. t.at r (suc s)) (λ s. first_entry p s k) (pos t.den))))
    | inr ne ↦
        cleared-other t r c i k ne
        ∙ other_core (t.at i k) (t.at r k) (total p.rows (λ s. t.at i (suc s) *ℤ first_entry p s k)) (total p.rows (λ s. t.at r (suc s) *ℤ first_entry p s k)) (delta p.rows i) (pos t.den) (first_entry p p.rows k) (t.at r c) (t.at i c)
        (sound.combined i k hi hk)
        (plain_row (t.at r k) (total p.rows (λ s. t.at r (suc s) *ℤ first_entry p s k)) (delta p.rows r) (pos t.den *ℤ first_entry p p.rows k) (sound.combined r k (let l = leaving.in_rows in omega arith) hk) not_objective)
        ∙ ap (λ z. z +ℤ (delta p.rows i *ℤ ((pos t.den *ℤ t.at r c) *ℤ first_entry p p.rows k)))
        (sym (total-same p.rows (λ s. cleared t r c i (suc s) *ℤ first_entry p s k) (λ s. ((t.at i (suc s) *ℤ t.at r c) -ℤ (t.at i c *ℤ t.at r (suc s))) *ℤ first_entry p s k) (λ s _. ap (λ z. z *ℤ first_entry p s k) (cleared-other t r c i (suc s) ne))
        ∙ total-cleared p.rows (λ s. t.at i (suc s)) (λ s. t.at r (suc s)) (λ s. first_entry p s k) (t.at r c) (t.at i c)))
  ]

  combined : (i k : ℕ) → i ≤ p.rows → k < width_of p
      → u.at i k ≡ total p.rows (λ s. u.at i (suc s) *ℤ first_entry p s k) +ℤ (delta p.rows i *ℤ (pos u.den *ℤ first_entry p p.rows k))
  combined i k hi hk = cancel (u.at i k) (total p.rows (λ s. u.at i (suc s) *ℤ first_entry p s k) +ℤ (delta p.rows i *ℤ (pos u.den *ℤ first_entry p p.rows k))) pivot.divisor divisor_positive
      (sym (pivot.entries i k hi hk)
      ∙ combined_core i k hi hk
      ∙ ap (λ z. z +ℤ (delta p.rows i *ℤ ((pos t.den *ℤ t.at r c) *ℤ first_entry p p.rows k)))
      (total-same p.rows (λ s. cleared t r c i (suc s) *ℤ first_entry p s k) (λ s. (u.at i (suc s) *ℤ pos pivot.divisor) *ℤ first_entry p s k) (λ s hs. ap (λ z. z *ℤ first_entry p s k) (pivot.entries i (suc s) hi (omega arith)))
      ∙ total-scaled p.rows (λ s. u.at i (suc s)) (λ s. first_entry p s k) (pos pivot.divisor))
      ∙ ap (λ z. (total p.rows (λ s. u.at i (suc s) *ℤ first_entry p s k) *ℤ pos pivot.divisor) +ℤ (delta p.rows i *ℤ (z *ℤ first_entry p p.rows k))) pivot.den
      ∙ regroup (total p.rows (λ s. u.at i (suc s) *ℤ first_entry p s k)) (delta p.rows i) (first_entry p p.rows k) u.den pivot.divisor)

  objective_other : p.rows ≢ r
  objective_other e = let l = leaving.in_rows in omega arith

  recovered_core : (s k : ℕ) → s ≤ p.rows → k < width_of p
      → (pos t.den *ℤ t.at r c) *ℤ first_entry p s k ≡ total p.rows (λ i. first_entry p s (u.basis i) *ℤ cleared t r c i k) +ℤ (delta p.rows s *ℤ cleared t r c p.rows k)
  recovered_core s k hs hk =
      let f : ℕ → ℤ = λ i. first_entry p s (t.basis i) in
      let before : ℕ → ℤ = λ i. first_entry p s (t.basis i) *ℤ ((t.at i k *ℤ t.at r c) -ℤ (t.at i c *ℤ t.at r k)) in
      let after : ℕ → ℤ = λ i. first_entry p s (u.basis i) *ℤ cleared t r c i k in
      let here : after r ≡ first_entry p s c *ℤ (t.at r k *ℤ pos t.den)
      = ap (λ b. first_entry p s b *ℤ cleared t r c r k) pivot.enters ∙ ap (λ z. first_entry p s c *ℤ z) (cleared-row t r c k) in
      let objective : cleared t r c p.rows k ≡ (t.at p.rows k *ℤ t.at r c) -ℤ (t.at p.rows c *ℤ t.at r k) = cleared-other t r c p.rows k objective_other in
      let sum : total p.rows after ≡ total p.rows before +ℤ after r
      = total-changed p.rows r before after leaving.in_rows
      (λ i hi ne. ap (λ b. first_entry p s b *ℤ cleared t r c i k) (pivot.stays i hi ne) ∙ ap (λ z. first_entry p s (t.basis i) *ℤ z) (cleared-other t r c i k ne))
      (vanishes (first_entry p s (t.basis r)) (t.at r k) (t.at r c)) in
      recover_core (total p.rows (λ i. first_entry p s (t.basis i) *ℤ t.at i k)) (total p.rows (λ i. first_entry p s (t.basis i) *ℤ t.at i c)) (delta p.rows s)
      (t.at p.rows k) (t.at p.rows c) (pos t.den) (first_entry p s k) (first_entry p s c) (t.at r c) (t.at r k)
      (sound.recovered s k hs hk) (sound.recovered s c hs entering.in_width)
      ∙ ap (λ z. (z +ℤ (first_entry p s c *ℤ (t.at r k *ℤ pos t.den))) +ℤ (delta p.rows s *ℤ ((t.at p.rows k *ℤ t.at r c) -ℤ (t.at p.rows c *ℤ t.at r k))))
      (sym (total-weighed p.rows f (λ i. t.at i k) (λ i. t.at i c) (t.at r c) (t.at r k)))
      ∙ ap (λ z. (total p.rows before +ℤ z) +ℤ (delta p.rows s *ℤ ((t.at p.rows k *ℤ t.at r c) -ℤ (t.at p.rows c *ℤ t.at r k)))) (sym here)
      ∙ ap (λ z. z +ℤ (delta p.rows s *ℤ ((t.at p.rows k *ℤ t.at r c) -ℤ (t.at p.rows c *ℤ t.at r k)))) (sym sum)
      ∙ ap (λ z. total p.rows after +ℤ (delta p.rows s *ℤ z)) (sym objective)

  recovered : (s k : ℕ) → s ≤ p.rows → k < width_of p
      → pos u.den *ℤ first_entry p s k ≡ total p.rows (λ i. first_entry p s (u.basis i) *ℤ u.at i k) +ℤ (delta p.rows s *ℤ u.at p.rows k)
  recovered s k hs hk =
      let sum : total p.rows (λ i. first_entry p s (u.basis i) *ℤ cleared t r c i k) ≡ total p.rows (λ i. first_entry p s (u.basis i) *ℤ u.at i k) *ℤ pos pivot.divisor
      = total-same p.rows (λ i. first_entry p s (u.basis i) *ℤ cleared t r c i k) (λ i. (first_entry p s (u.basis i) *ℤ u.at i k) *ℤ pos pivot.divisor)
      (λ i hi. ap (λ z. first_entry p s (u.basis i) *ℤ z) (pivot.entries i k (omega arith) hk) ∙ ring (at (first_entry p s (u.basis i)) ⊗ (at (u.at i k) ⊗ at (pos pivot.divisor))) ((at (first_entry p s (u.basis i)) ⊗ at (u.at i k)) ⊗ at (pos pivot.divisor)) (omega arith))
      ∙ total-scale p.rows (λ i. first_entry p s (u.basis i) *ℤ u.at i k) (pos pivot.divisor) in
      cancel (pos u.den *ℤ first_entry p s k) (total p.rows (λ i. first_entry p s (u.basis i) *ℤ u.at i k) +ℤ (delta p.rows s *ℤ u.at p.rows k)) pivot.divisor divisor_positive
      (recover_regroup (first_entry p s k) (total p.rows (λ i. first_entry p s (u.basis i) *ℤ u.at i k)) (delta p.rows s) (u.at p.rows k) u.den pivot.divisor
      (ap (λ z. z *ℤ first_entry p s k) (sym pivot.den)
      ∙ recovered_core s k hs hk
      ∙ ap (λ z. z +ℤ (delta p.rows s *ℤ cleared t r c p.rows k)) sum
      ∙ ap (λ z. (total p.rows (λ i. first_entry p s (u.basis i) *ℤ u.at i k) *ℤ pos pivot.divisor) +ℤ (delta p.rows s *ℤ z)) (pivot.entries p.rows k (omega arith) hk)))

  -- ---- the unit columns
  entering_column : (i : ℕ) → cleared t r c i c ≡ delta i r *ℤ (pos t.den *ℤ t.at r c)
  entering_column i = elim (cases_eq i r) [
    | inl e ↦ subst (λ h. cleared t r c h c ≡ delta h r *ℤ (pos t.den *ℤ t.at r c)) (sym e)
        (cleared-row t r c c ∙ sym (ap (λ z. z *ℤ (pos t.den *ℤ t.at r c)) (delta-same r) ∙ ring (at (pos 1) ⊗ (at (pos t.den) ⊗ at (t.at r c))) (at (t.at r c) ⊗ at (pos t.den)) (omega arith)))
    | inr off ↦ cleared-other t r c i c off
        ∙ ring ((at (t.at i c) ⊗ at (t.at r c)) ⊖ (at (t.at i c) ⊗ at (t.at r c))) (at (pos 0) ⊗ (at (pos t.den) ⊗ at (t.at r c))) (omega arith)
        ∙ sym (ap (λ z. z *ℤ (pos t.den *ℤ t.at r c)) (delta-other i r off))
  ]

  basis_within : (i : ℕ) → i < p.rows → u.basis i < width_of p
  basis_within i hi = elim (cases_eq i r) [
    | inl e ↦ subst (λ b. b < width_of p) (sym (ap u.basis e ∙ pivot.enters)) entering.in_width
    | inr off ↦ subst (λ b. b < width_of p) (sym (pivot.stays i hi off)) (sound.basis_within i hi)
  ]

  basis_after : (i : ℕ) → i < p.rows → 1 ≤ u.basis i
  basis_after i hi = elim (cases_eq i r) [
    | inl e ↦ subst (λ b. 1 ≤ b) (sym (ap u.basis e ∙ pivot.enters)) entering.after_right_sides
    | inr off ↦ subst (λ b. 1 ≤ b) (sym (pivot.stays i hi off)) (sound.basis_after i hi)
  ]

  unit_core : (i k : ℕ) → i ≤ p.rows → k < p.rows → cleared t r c i (u.basis k) ≡ delta i k *ℤ (pos t.den *ℤ t.at r c)
  unit_core i k hi hk = elim (cases_eq k r) [
    | inl e ↦ subst (λ h. cleared t r c i (u.basis h) ≡ delta i h *ℤ (pos t.den *ℤ t.at r c)) (sym e) (ap (cleared t r c i) pivot.enters ∙ entering_column i)
    | inr ne ↦ ap (cleared t r c i) (pivot.stays k hk ne) ∙ elim (cases_eq i r) [
      | inl e ↦ subst (λ h. cleared t r c h (t.basis k) ≡ delta h k *ℤ (pos t.den *ℤ t.at r c)) (sym e)
          (cleared-row t r c (t.basis k) ∙ ap (λ z. z *ℤ pos t.den) (sound.unit r k (let l = leaving.in_rows in omega arith) hk)
          ∙ zero_unit (delta r k) (pos t.den) (t.at r c) (delta-other r k (λ q. ne (sym q))))
      | inr off ↦ cleared-other t r c i (t.basis k) off
          ∙ ap (λ z. (z *ℤ t.at r c) -ℤ (t.at i c *ℤ t.at r (t.basis k))) (sound.unit i k hi hk)
          ∙ ap (λ z. ((delta i k *ℤ pos t.den) *ℤ t.at r c) -ℤ (t.at i c *ℤ z)) (sound.unit r k (let l = leaving.in_rows in omega arith) hk)
          ∙ kept_unit (delta i k) (delta r k) (pos t.den) (t.at r c) (t.at i c) (delta-other r k (λ q. ne (sym q)))
    ]
  ]

  unit : (i k : ℕ) → i ≤ p.rows → k < p.rows → u.at i (u.basis k) ≡ delta i k *ℤ pos u.den
  unit i k hi hk = cancel (u.at i (u.basis k)) (delta i k *ℤ pos u.den) pivot.divisor divisor_positive
      (sym (pivot.entries i (u.basis k) hi (basis_within k hk)) ∙ unit_core i k hi hk ∙ ap (λ z. delta i k *ℤ z) pivot.den
      ∙ ring (at (delta i k) ⊗ (at (pos u.den) ⊗ at (pos pivot.divisor))) ((at (delta i k) ⊗ at (pos u.den)) ⊗ at (pos pivot.divisor)) (omega arith))

  -- ---- the rows stay positive
  cleared_positive : (i : ℕ) → i < p.rows → IsLexLess (width_of p) (λ _. pos 0) (cleared t r c i)
  cleared_positive i hi = elim (cases_eq i r) [
    | inl e ↦ subst (λ h. IsLexLess (width_of p) (λ _. pos 0) (cleared t r c h)) (sym e)
        (row_up (width_of p) (t.at r) (cleared t r c r) (pos t.den) (let d = sound.den_positive in omega (arith, ints)) (λ j _. cleared-row t r c j) (sound.rows_positive r leaving.in_rows))
    | inr off ↦ elim (sign_split (t.at i c)) [
      | inl above ↦ row_difference (width_of p) (λ j. t.at i c *ℤ t.at r j) (λ j. t.at r c *ℤ t.at i j) (cleared t r c i)
          (λ j _. cleared-other t r c i j off ∙ ap (λ z. z -ℤ (t.at i c *ℤ t.at r j)) (ring (at (t.at i j) ⊗ at (t.at r c)) (at (t.at r c) ⊗ at (t.at i j)) (omega arith)))
          (leaving.least i hi off above)
      | inr at_most ↦ elim (sign_cases (neg_ℤ (t.at i c)) (omega (arith, ints))) [
        | inl zero_there ↦ row_up (width_of p) (t.at i) (cleared t r c i) (t.at r c) leaving.positive
            (λ j _. cleared-other t r c i j off ∙ drop_term (t.at i j *ℤ t.at r c) (t.at i c) (t.at r j) zero_there) (sound.rows_positive i hi)
        | inr below ↦ row_sum (width_of p) (λ j. t.at i j *ℤ t.at r c) (λ j. t.at r j *ℤ neg_ℤ (t.at i c)) (cleared t r c i)
            (λ j _. cleared-other t r c i j off ∙ as_sum (t.at i j *ℤ t.at r c) (t.at i c) (t.at r j))
            (row_up (width_of p) (t.at i) (λ j. t.at i j *ℤ t.at r c) (t.at r c) leaving.positive (λ j _. refl) (sound.rows_positive i hi))
            (row_up (width_of p) (t.at r) (λ j. t.at r j *ℤ neg_ℤ (t.at i c)) (neg_ℤ (t.at i c)) below (λ j _. refl) (sound.rows_positive r leaving.in_rows))
      ]
    ]
  ]

  rows_positive : (i : ℕ) → i < p.rows → IsLexLess (width_of p) (λ _. pos 0) (u.at i)
  rows_positive i hi = row_down (width_of p) (cleared t r c i) (u.at i) pivot.divisor divisor_positive (λ j hj. pivot.entries i j (omega arith) hj) (cleared_positive i hi)

  pub pivot_sound : IsSound p u
  pivot_sound = record {
    den_positive = next_den_positive;
    combined = combined;
    recovered = recovered;
    unit = unit;
    basis_after = basis_after;
    basis_within = basis_within;
    rows_positive = rows_positive;
  }

  -- ---- the objective row becomes lexicographically greater
  pub objective_rises : IsLexLess (width_of p) (λ j. t.at p.rows j *ℤ pos u.den) (λ j. u.at p.rows j *ℤ pos t.den)
  objective_rises =
      let gain : ℤ = neg_ℤ (t.at p.rows c) *ℤ pos t.den in
      let gain_positive : pos 0 <ℤ gain = positive_times (neg_ℤ (t.at p.rows c)) (pos t.den) (let n = entering.negative in omega (arith, ints)) (let d = sound.den_positive in omega (arith, ints)) in
      let risen : IsLexLess (width_of p) (λ _. pos 0) (λ j. t.at r j *ℤ gain) = row_up (width_of p) (t.at r) (λ j. t.at r j *ℤ gain) gain gain_positive (λ j _. refl) (sound.rows_positive r leaving.in_rows) in
      row_less (width_of p) (λ j. t.at p.rows j *ℤ pos u.den) (λ j. u.at p.rows j *ℤ pos t.den)
      (row_down (width_of p) (λ j. t.at r j *ℤ gain) (λ j. (u.at p.rows j *ℤ pos t.den) -ℤ (t.at p.rows j *ℤ pos u.den)) pivot.divisor divisor_positive
      (λ j hj. rise (t.at p.rows j) (t.at p.rows c) (t.at r j) (t.at r c) (pos t.den) (u.at p.rows j) u.den pivot.divisor (sym (cleared-other t r c p.rows j objective_other) ∙ pivot.entries p.rows j (omega arith) hj) pivot.den)
      risen)
