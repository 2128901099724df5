-- Marks on observations, and what steps lead to from those that are marked.
use Rattle.std.proofs.Common.{rules, ◌≡◌, ◌<◌, ◌≤◌, ◌+◌, ◌⊎◌, ◌↔◌, ◌||◌, inl, inr, ℕ, Bool, true, false, IsTrue, List, [], ◌∷◌, length, slice_index_or, refl, sym, subst, ◌∙◌, arith, set}
use Rattle.std.proofs.lemmas.Bool.{cases_eq, false≢true}
use Rattle.std.proofs.lemmas.List.{get_or-set_other, get_or-set_same}
use Rattle.rp_evidence.specs.Walk.{LeadsTo}
use Rattle.rp_evidence.proofs.Walks.{reaches_by, rest_of_reach}
use Rattle.rp_evidence.specs.Bits.{bit_in}
use Rattle.rp_clauses.specs.InnerBits.{has_bit}
use Rattle.rp_evidence.specs.Marks.{AreMarked, IsMarked}
use Rattle.rp_evidence.specs.Reached.{IsClosureOf, Reached, reaches_in}
use Rattle.rp_clauses.specs.ReachedMarks.{IsReachedFromMarked}

-- ---- what is told of one observation after another is marked, up to v

pub record IsTakenTo (step : ℕ → Type 0) (old new : List Bool) (v : ℕ) : Type 0 where
  pub same_length : length new ≡ length old
  pub before : (t : ℕ) → t < v → IsMarked new t ↔ (IsMarked old t ⊎ step t)
  pub after : (t : ℕ) → v ≤ t → slice_index_or new t false ≡ slice_index_or old t false

module _ (step : ℕ → Type 0) (old : List Bool) where
  module _ (new : List Bool) (v : ℕ) (so_far : IsTakenTo step old new v) where
    pub taken_past : ¬ step v → IsTakenTo step old new (v + 1)
    taken_past none = record {
      same_length = so_far.same_length;
      before = λ t l. elim (cases_eq t v) [
        | inl e ↦ subst (λ z. IsMarked new z ↔ (IsMarked old z ⊎ step z)) (sym e) (
          (λ h. inl (sym (so_far.after v (omega arith)) ∙ h)),
          (λ h. elim h [ inl k ↦ so_far.after v (omega arith) ∙ k | inr k ↦ absurd (none k) ]),
        )
        | inr d ↦ so_far.before t (omega arith)
      ];
      after = λ t l. so_far.after t (omega arith);
    }

    pub taken_at : v < length old → step v → (more : List Bool) → more ≡ set new v true → IsTakenTo step old more (v + 1)
    taken_at room here more e = rw e (record {
      same_length = set_length ∙ so_far.same_length;
      before = λ t l. elim (cases_eq t v) [
        | inl k ↦ subst (λ z. IsMarked (set new v true) z ↔ (IsMarked old z ⊎ step z)) (sym k) ((λ h. inr here), (λ h. marks))
        | inr d ↦ subst (λ b. IsTrue b ↔ (IsMarked old t ⊎ step t)) (sym (get_or-set_other new v t true false d)) (so_far.before t (omega arith))
      ];
      after = λ t l. get_or-set_other new v t true false (λ k. absurd (omega (arith, k))) ∙ so_far.after t (omega arith);
    })
      where
        set_length : length (set new v true) ≡ length new
        set_length = search rules

        marks : IsMarked (set new v true) v
        marks = get_or-set_same new v true false (omega (arith, room, so_far.same_length))

-- ---- what the marked observations reach

-- The row has what the marked ones of the first s observations reach.
abbrev pub IsReachedFromFirst : List (List ℕ) → List Bool → List ℕ → ℕ → Type 0
IsReachedFromFirst rows marks row end =
    (t : ℕ) → IsTrue (bit_in row t) ↔ ((s : ℕ) × (s < end) × IsMarked marks s × IsTrue (has_bit rows s t))

of_or : (a b : Bool) → IsTrue (a || b) → IsTrue a ⊎ IsTrue b
of_or true b h = inl refl
of_or false b h = inr h

or_left : (a b : Bool) → IsTrue a → IsTrue (a || b)
or_left true b h = refl
or_left false b h = absurd (false≢true h)

or_right : (a b : Bool) → IsTrue b → IsTrue (a || b)
or_right true b h = refl
or_right false b h = h

module _ (rows : List (List ℕ)) (marks : List Bool) where
  module _ (row : List ℕ) (s : ℕ) (so_far : IsReachedFromFirst rows marks row s) where
    pub led_past : slice_index_or marks s false ≡ false → IsReachedFromFirst rows marks row (s + 1)
    led_past none t = (
      (λ h. let k = (so_far t).0 h in (k.0, omega (arith, k.1), k.2, k.3)),
      (λ h. (so_far t).1 (h.0, below h.0 h.1 h.2, h.2, h.3)),
    )
      where
        below : (a : ℕ) → a < s + 1 → IsMarked marks a → a < s
        below a l m = elim (cases_eq a s) [
          | inl e ↦ absurd (false≢true (sym none ∙ subst (λ z. IsMarked marks z) e m))
          | inr d ↦ omega arith
        ]

    pub led_at : IsMarked marks s → (new : List ℕ) → ((t : ℕ) → bit_in new t ≡ (bit_in row t || has_bit rows s t)) → IsReachedFromFirst rows marks new (s + 1)
    led_at here new is t = (
      (λ h. elim (of_or (bit_in row t) (has_bit rows s t) (sym (is t) ∙ h)) [
        | inl k ↦ (let q = (so_far t).0 k in (q.0, omega (arith, q.1), q.2, q.3))
        | inr k ↦ (s, omega arith, here, k)
      ]),
      (λ h. is t ∙ elim (cases_eq h.0 s) [
        | inl e ↦ or_right (bit_in row t) (has_bit rows s t) (subst (λ z. IsTrue (has_bit rows z t)) e h.3)
        | inr d ↦ or_left (bit_in row t) (has_bit rows s t) ((so_far t).1 (h.0, omega (arith, h.1, d), h.2, h.3))
      ]),
    )

-- ---- marks spread by what is reached

module _ (n : ℕ) (step : ℕ → ℕ → Type 0) (old marks : List Bool) (row : List ℕ) (closure : Reached)
    (closes : IsClosureOf closure n step)
    (reached : (t : ℕ) → t < n → IsTrue (bit_in row t) ↔ ((s : ℕ) × (s < n) × IsMarked old s × IsTrue (reaches_in closure s t)))
    (marked : (t : ℕ) → t < n → IsMarked marks t ↔ (IsMarked old t ⊎ IsTrue (bit_in row t))) where
  pub spread_all : AreMarked n (IsReachedFromMarked n step old) marks
  spread_all t t_in = (
    (λ h. elim ((marked t t_in).0 h) [
      | inl k ↦ (t, t_in, k, [], (t_in, refl))
      | inr k ↦ (let r = (reached t t_in).0 k in let w = rest_of_reach n step r.0 t ((closes.exact r.0 t r.1 t_in).0 r.3) in (r.0, r.1, r.2, w.0 ∷ w.1, w.2))
    ]),
    (λ h. (marked t t_in).1 (along h.0 h.1 h.2 h.3 h.4)),
  )
    where
      along : (s : ℕ) → s < n → IsMarked old s → (w : List ℕ) → LeadsTo n step s t w → IsMarked old t ⊎ IsTrue (bit_in row t)
      along s s_in h [] l = inl (subst (λ z. IsMarked old z) l.1 h)
      along s s_in h (x ∷ w) l = inr ((reached t t_in).1 (s, s_in, h, (closes.exact s t s_in t_in).1 (reaches_by n step s t x w l)))
