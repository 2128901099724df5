-- How much of each cell a mixture of kinds has, and how cells that weigh something bound it.
use Rattle.std.proofs.Common.{◌≡◌, ◌≢◌, ◌<◌, ◌≤◌, ◌+◌, ◌*◌, ◌==◌, ◌||◌, inl, inr, ℕ, zero, suc, Bool, true, false, List, [], ◌∷◌, Contains, length, slice_index, refl, sym, ap, subst, ◌∙◌, arith, if◌then◌else◌}
use Rattle.std.proofs.lemmas.Bool.{cases_eq, eq-eqb, ne_eqb}
use Rattle.std.proofs.lemmas.List.Sums.{sum_by-cons}
use Rattle.rp_evidence.specs.declared.random.Share.{Share}
use Rattle.rp_table.specs.Sums.{sum_below}
use Rattle.rp_table.proofs.SumsBelow.{sum_below-mono, sum_below-same, sum_none}
use Rattle.rp_patch.specs.Kinds.{AreWhole, HasMixtureOf, IsGreatestMixtureOf, IsMixtureOf, IsPartialMixtureOf, Kinds, UsesOneOfEach, all_units_weight, cells_weight, uses, weight_of, weight_using}
use Rattle.rp_patch.proofs.ChosenLaws.{sum_first}

-- ---- sums

pub sum_added : (f g : ℕ → ℕ) (n : ℕ) → sum_below n (λ i. f i + g i) ≡ sum_below n f + sum_below n g
sum_added f g zero = refl
sum_added f g (suc n) = omega (arith, sum_added f g n)

pub sum_scaled : (f : ℕ → ℕ) (k n : ℕ) → sum_below n (λ i. f i * k) ≡ sum_below n f * k
sum_scaled f k zero = omega arith
sum_scaled f k (suc n) = omega (arith, sum_scaled f k n)

-- one term alone
pub sum_one : (f : ℕ → ℕ) (n k : ℕ) → k < n → ((i : ℕ) → i ≢ k → f i ≡ 0) → sum_below n f ≡ f k
sum_one f zero k l others = absurd (omega (arith, l))
sum_one f (suc n) k l others = elim (cases_eq n k) [
  | inl e ↦ (let none : sum_below n f ≡ 0 = sum_none f n (λ i below. others i (λ is. omega (arith, is, e, below))) in
      let here : f n ≡ f k = ap f e in omega (arith, none, here))
  | inr d ↦ omega (arith, sum_one f n k (omega (arith, l, d)) others, others n d)
]

-- no term passes, and together they are the same: so each is
pub all_same : (f g : ℕ → ℕ) (n : ℕ) → ((i : ℕ) → i < n → f i ≤ g i) → sum_below n g ≤ sum_below n f → (i : ℕ) → i < n → f i ≡ g i
all_same f g zero le sums i l = absurd (omega (arith, l))
all_same f g (suc n) le sums i l =
    let before : sum_below n f ≤ sum_below n g = mono n (λ i l. le i (omega (arith, l))) in
    let last = le n (omega arith) in
    elim (cases_eq i n) [
      | inl e ↦ subst (λ k. f k ≡ g k) (sym e) (omega (arith, before, last, sums))
      | inr d ↦ all_same f g n (λ i l. le i (omega (arith, l))) (omega (arith, last, sums)) i (omega (arith, l, d))
    ]
  where
    mono : (m : ℕ) → ((i : ℕ) → i < m → f i ≤ g i) → sum_below m f ≤ sum_below m g
    mono zero le = omega arith
    mono (suc m) le = omega (arith, mono m (λ i l. le i (omega (arith, l))), le m (omega arith))

-- ---- which cells are used

pub uses_none : (cells : List ℕ) (i : ℕ) → ((j : ℕ) → j < length cells → slice_index cells j ≢ i) → uses cells i ≡ false
uses_none [] i none = refl
uses_none (x ∷ cells) i none =
    ap (λ b. b || uses cells i) (ne_eqb x i (none 0 (omega arith))) ∙ uses_none cells i (λ j l. none (suc j) (omega (arith, l)))

pub uses_some : (cells : List ℕ) (j : ℕ) → j < length cells → uses cells (slice_index cells j) ≡ true
uses_some [] j l = absurd (omega (arith, l))
uses_some (x ∷ cells) zero l = ap (λ b. b || uses cells x) (eq-eqb x x refl)
uses_some (x ∷ cells) (suc j) l = by (x == slice_index cells j) (uses_some cells j (omega (arith, l)))
  where
    by : (b : Bool) → uses cells (slice_index cells j) ≡ true → (b || uses cells (slice_index cells j)) ≡ true
    by true h = refl
    by false h = h

-- ---- what parts have

pub of_cons : (part : Share) (parts : List Share) → weight_of (part ∷ parts) ≡ part.weight + weight_of parts
of_cons part parts = sum_by-cons (λ (q : Share). q.weight) part parts

module _ (k : Kinds) where
  abbrev taken_of : Share → ℕ → ℕ
  taken_of part i = if uses (k.used part.patches) i then part.weight else 0

  pub on_cons : (part : Share) (parts : List Share) (i : ℕ) → weight_using k (part ∷ parts) i ≡ taken_of part i + weight_using k parts i
  on_cons part parts i = sum_by-cons (λ (q : Share). taken_of q i) part parts

  abbrev AllKinds : List Share → Type 0
  AllKinds parts = (part : Share) → Contains parts part → k.IsKind part.patches

  rest_of_kinds : (part : Share) (parts : List Share) → AllKinds (part ∷ parts) → AllKinds parts
  rest_of_kinds part parts all q h = all q (suc h.0, omega (arith, h.1), h.2)

  -- cells that stand in groups in turn
  abbrev TakesFrom : ℕ → List ℕ → Type 0
  TakesFrom s cells = (j : ℕ) → j < length cells → (slice_index cells j < k.cells) × (k.group (slice_index cells j) ≡ s + j)

  takes_from : (cells : List ℕ) → UsesOneOfEach k cells → TakesFrom 0 cells
  takes_from cells is j l = let below : j < k.groups = omega (arith, l, is.one_each) in (is.cell j below, is.in_its_group j below ∙ omega arith)

  -- what the cells that are used weigh, over all cells
  weighed_from : (x : ℕ → ℕ) (s : ℕ) (cells : List ℕ) → TakesFrom s cells
      → sum_below k.cells (λ i. if uses cells i then x i else 0) ≡ sum_below (length cells) (λ j. x (slice_index cells j))
  weighed_from x s [] takes = sum_none (λ i. 0) k.cells (λ i l. refl)
  weighed_from x s (h ∷ cells) takes =
      sum_below-same _ _ k.cells (λ i l. apart i) ∙ sum_added (λ i. if h == i then x i else 0) (λ i. if uses cells i then x i else 0) k.cells
      ∙ (λ i. one i + weighed_from x (s + 1) cells rest i) ∙ sym (sum_first (λ j. x (slice_index (h ∷ cells) j)) (length cells))
    where
      rest : TakesFrom (s + 1) cells
      rest j l = let t = takes (suc j) (omega (arith, l)) in (t.0, t.1 ∙ omega arith)

      first : (h < k.cells) × (k.group h ≡ s)
      first = let t = takes 0 (omega arith) in (t.0, t.1 ∙ omega arith)

      unused : uses cells h ≡ false
      unused = uses_none cells h (λ j l is. let t = (rest j l).1 in let same = ap k.group is in omega (arith, t, same, first.1))

      one : sum_below k.cells (λ i. if h == i then x i else 0) ≡ x h
      one = sum_one (λ i. if h == i then x i else 0) k.cells h first.0 (λ i d. ap (λ b. if b then x i else 0) (ne_eqb h i (λ e. d (sym e))))
          ∙ ap (λ b. if b then x h else 0) (eq-eqb h h refl)

      apart : (i : ℕ) → (if (h == i) || uses cells i then x i else 0) ≡ (if h == i then x i else 0) + (if uses cells i then x i else 0)
      apart i = elim (cases_eq h i) [
        | inl e ↦
            let on : (h == i) ≡ true = eq-eqb h i e in
            let off : uses cells i ≡ false = subst (λ z. uses cells z ≡ false) e unused in
            (λ z. if on z || uses cells i then x i else 0) ∙ sym ((λ z. (if on z then x i else 0) + (if off z then x i else 0)) ∙ omega arith)
        | inr d ↦
            let off : (h == i) ≡ false = ne_eqb h i d in
            (λ z. if off z || uses cells i then x i else 0) ∙ sym ((λ z. (if off z then x i else 0) + (if uses cells i then x i else 0)) ∙ omega arith)
      ]

  pub weighed : (x : ℕ → ℕ) (cells : List ℕ) → UsesOneOfEach k cells
      → sum_below k.cells (λ i. if uses cells i then x i else 0) ≡ sum_below (length cells) (λ j. x (slice_index cells j))
  weighed x cells is = weighed_from x 0 cells (takes_from cells is)

  -- of the cells of one group one is used
  taken_once : (w j : ℕ) (cells : List ℕ) → UsesOneOfEach k cells → j < k.groups
      → sum_below k.cells (λ i. if k.group i == j then (if uses cells i then w else 0) else 0) ≡ w
  taken_once w j cells is below =
      let h = slice_index cells j in
      let used : uses cells h ≡ true = uses_some cells j (omega (arith, below, is.one_each)) in
      sum_one (λ i. if k.group i == j then (if uses cells i then w else 0) else 0) k.cells h (is.cell j below) others
      ∙ (λ z. if eq-eqb (k.group h) j (is.in_its_group j below) z then (if used z then w else 0) else 0)
    where
      others : (i : ℕ) → i ≢ slice_index cells j → (if k.group i == j then (if uses cells i then w else 0) else 0) ≡ 0
      others i d = elim (cases_eq (k.group i) j) [
        | inl e ↦
            let off : uses cells i ≡ false = uses_none cells i (λ h l is_i.
            let there : h ≡ j = sym (is.in_its_group h (omega (arith, l, is.one_each))) ∙ ap k.group is_i ∙ e in
            d (sym (ap (slice_index cells) (sym there) ∙ is_i))) in
            (λ z. if eq-eqb (k.group i) j e z then (if off z then w else 0) else 0)
        | inr a ↦ ap (λ b. if b then (if uses cells i then w else 0) else 0) (ne_eqb (k.group i) j a)
      ]

  scaled_units : (d j n : ℕ) → sum_below n (λ i. if k.group i == j then d * k.units i else 0) ≡ d * sum_below n (λ i. if k.group i == j then k.units i else 0)
  scaled_units d j zero = omega arith
  scaled_units d j (suc n) = by (k.group n == j) (scaled_units d j n)
    where
      by : (b : Bool) → sum_below n (λ i. if k.group i == j then d * k.units i else 0) ≡ d * sum_below n (λ i. if k.group i == j then k.units i else 0)
          → sum_below n (λ i. if k.group i == j then d * k.units i else 0) + (if b then d * k.units n else 0) ≡ d * (sum_below n (λ i. if k.group i == j then k.units i else 0) + (if b then k.units n else 0))
      by true e = omega (arith, e)
      by false e = omega (arith, e)

  module _ (is : AreWhole k) where
    first_group : 0 < k.groups
    first_group = omega (arith, is.some_groups)

    first_of_kinds : (part : Share) (parts : List Share) → AllKinds (part ∷ parts) → UsesOneOfEach k (k.used part.patches)
    first_of_kinds part parts all = is.one_of_each part.patches (all part (0, omega arith, refl))

    -- in each group they have all
    all_in_group : (parts : List Share) (j : ℕ) → j < k.groups → AllKinds parts
        → sum_below k.cells (λ i. if k.group i == j then weight_using k parts i else 0) ≡ weight_of parts
    all_in_group [] j below all = sum_none _ k.cells (λ i l. none (k.group i == j))
      where
        none : (b : Bool) → ◌≡◌ {A = ℕ} (if b then 0 else 0) 0
        none true = refl
        none false = refl
    all_in_group (part ∷ parts) j below all =
        sum_below-same _ _ k.cells (λ i l. by (k.group i == j) i)
        ∙ sum_added (λ i. if k.group i == j then taken_of part i else 0) (λ i. if k.group i == j then weight_using k parts i else 0) k.cells
        ∙ (λ z. taken_once part.weight j (k.used part.patches) (first_of_kinds part parts all) below z + all_in_group parts j below (rest_of_kinds part parts all) z)
        ∙ sym (of_cons part parts)
      where
        by : (b : Bool) (i : ℕ) → (if b then weight_using k (part ∷ parts) i else 0) ≡ (if b then taken_of part i else 0) + (if b then weight_using k parts i else 0)
        by true i = on_cons part parts i
        by false i = refl

    -- a mixture has the whole total
    pub mixture_total : (d : ℕ) (parts : List Share) → IsMixtureOf k d parts → weight_of parts ≡ d * k.total
    mixture_total d parts exact =
        sym (all_in_group parts 0 first_group exact.kinds)
        ∙ sum_below-same _ _ k.cells (λ i l. ap (λ w. if k.group i == 0 then w else 0) (exact.exact i l))
        ∙ scaled_units d 0 k.cells ∙ ap (λ n. d * n) (is.filled 0 first_group)

    -- a partial mixture of the whole total is a mixture
    pub makes_all : (den : ℕ) (parts : List Share) → IsPartialMixtureOf k den parts → weight_of parts ≡ den * k.total → IsMixtureOf k den parts
    makes_all den parts partial whole = record {
      fraction = partial.fraction;
      kinds = partial.kinds;
      exact = λ i l. exact_at i l;
    }
      where
        exact_at : (i : ℕ) → i < k.cells → weight_using k parts i ≡ den * k.units i
        exact_at i l =
            let j = k.group i in
            let below : j < k.groups = is.in_groups i l in
            let have = all_in_group parts j below partial.kinds in
            let units = scaled_units den j k.cells ∙ ap (λ n. den * n) (is.filled j below) in
            let on : (k.group i == j) ≡ true = eq-eqb j j refl in
            let same = all_same (λ h. if k.group h == j then weight_using k parts h else 0) (λ h. if k.group h == j then den * k.units h else 0) k.cells
            (λ h h_in. within (k.group h == j) h h_in) (omega (arith, have, units, whole)) i l in
            sym (ap (λ b. if b then weight_using k parts i else 0) on) ∙ same ∙ ap (λ b. if b then den * k.units i else 0) on
          where
            within : (b : Bool) (h : ℕ) → h < k.cells → (if b then weight_using k parts h else 0) ≤ (if b then den * k.units h else 0)
            within true h h_in = partial.within h h_in
            within false h h_in = omega arith

    -- a partial mixture has no more than the total
    pub at_most_all : (den : ℕ) (parts : List Share) → IsPartialMixtureOf k den parts → weight_of parts ≤ den * k.total
    at_most_all den parts partial =
        let have = all_in_group parts 0 first_group partial.kinds in
        let units = scaled_units den 0 k.cells ∙ ap (λ n. den * n) (is.filled 0 first_group) in
        let le = sum_below-mono (λ i. if k.group i == 0 then weight_using k parts i else 0) (λ i. if k.group i == 0 then den * k.units i else 0) k.cells
        (λ i l. within (k.group i == 0) i l) in
        omega (arith, have, units, le)
      where
        within : (b : Bool) (h : ℕ) → h < k.cells → (if b then weight_using k parts h else 0) ≤ (if b then den * k.units h else 0)
        within true h h_in = partial.within h h_in
        within false h h_in = omega arith

    -- ---- the two sides of the program

    module _ (den : ℕ) (x : List ℕ) (heavy : (kind : List ℕ) → k.IsKind kind → den ≤ cells_weight x (k.used kind)) where
      -- where every kind weighs at least the denominator, so do the parts, by what they have
      weighs_at_least : (parts : List Share) → AllKinds parts → weight_of parts * den ≤ sum_below k.cells (λ i. slice_index x i * weight_using k parts i)
      weighs_at_least [] all = omega arith
      weighs_at_least (part ∷ parts) all =
          let rest = weighs_at_least parts (rest_of_kinds part parts all) in
          let kind = all part (0, omega arith, refl) in
          let here = heavy part.patches kind in
          let cells = k.used part.patches in
          let apart = sum_below-same (λ i. slice_index x i * weight_using k (part ∷ parts) i) (λ i. (if uses cells i then slice_index x i else 0) * part.weight + slice_index x i * weight_using k parts i) k.cells
          (λ i l. ap (λ n. slice_index x i * n) (on_cons part parts i) ∙ by (uses cells i) (slice_index x i) part.weight (weight_using k parts i)) in
          let sums = sum_added (λ i. (if uses cells i then slice_index x i else 0) * part.weight) (λ i. slice_index x i * weight_using k parts i) k.cells in
          let first = sum_scaled (λ i. if uses cells i then slice_index x i else 0) part.weight k.cells in
          let weight = ap (λ n. n * part.weight) (weighed (slice_index x) cells (is.one_of_each part.patches kind)) in
          let more : den * part.weight ≤ cells_weight x cells * part.weight = times den (cells_weight x cells) part.weight here in
          let both = ap (λ n. n * den) (of_cons part parts) in
          omega (arith, rest, apart, sums, first, weight, more, both)
        where
          by : (b : Bool) (a w r : ℕ) → a * ((if b then w else 0) + r) ≡ (if b then a else 0) * w + a * r
          by true a w r = omega arith
          by false a w r = omega arith

          times : (a b n : ℕ) → a ≤ b → a * n ≤ b * n
          times a b zero le = omega arith
          times a b (suc n) le = omega (arith, times a b n le, le)

      -- no partial mixture has more than the units weigh
      dual_bound : (d : ℕ) (other : List Share) → IsPartialMixtureOf k d other → weight_of other * den ≤ d * all_units_weight k x
      dual_bound d other partial =
          let low = weighs_at_least other partial.kinds in
          let high = bounded k.cells (λ i l. partial.within i l) in
          omega (arith, low, high)
        where
          times : (a b n : ℕ) → a ≤ b → n * a ≤ n * b
          times a b zero le = omega arith
          times a b (suc n) le = omega (arith, times a b n le, le)

          bounded : (n : ℕ) → ((i : ℕ) → i < n → weight_using k other i ≤ d * k.units i) → sum_below n (λ i. slice_index x i * weight_using k other i) ≤ d * sum_below n (λ i. slice_index x i * k.units i)
          bounded zero le = omega arith
          bounded (suc n) le =
              let here = times (weight_using k other n) (d * k.units n) (slice_index x n) (le n (omega arith)) in
              omega (arith, bounded n (λ i l. le i (omega (arith, l))), here)

      pub is_greatest : (parts : List Share) → weight_of parts ≡ all_units_weight k x → IsGreatestMixtureOf k den parts
      is_greatest parts same d other partial = omega (arith, dual_bound d other partial, ap (λ n. d * n) same)

      pub none_makes : (parts : List Share) → weight_of parts ≡ all_units_weight k x → weight_of parts < den * k.total → ¬ HasMixtureOf k
      none_makes parts same less h =
          let d = h.0 in let other = h.1 in let exact = h.2 in
          let partial : IsPartialMixtureOf k d other = record { fraction = exact.fraction; kinds = exact.kinds; within = λ i l. omega (arith, exact.exact i l) } in
          let whole = mixture_total d other exact in
          let bound = is_greatest parts same d other partial in
          let both = ap (λ n. n * den) whole in
          let more : weight_of parts * d < (den * k.total) * d = strict (weight_of parts) (den * k.total) d less exact.fraction in
          omega (arith, bound, both, more)
        where
          strict : (a b n : ℕ) → a < b → 0 < n → a * n < b * n
          strict a b zero l positive = absurd (omega (arith, positive))
          strict a b (suc zero) l positive = omega (arith, l)
          strict a b (suc (suc n)) l positive = omega (arith, strict a b (suc n) l (omega arith), l)
