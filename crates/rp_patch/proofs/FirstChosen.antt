-- All patches that were chosen, by the choices that fall in them.
use Rattle.std.proofs.Common.{◌≡◌, ℕ, zero, suc, ◌+◌, ◌-◌, ◌<◌, ◌≤◌, ◌==◌, ◌&&◌, ◌++◌, ◌⊎◌, inl, inr, Bool, true, false, ℤ, List, [], ◌∷◌, All, map, get_or, length, Option, refl, sym, ap, subst, ◌∙◌, arith, length-append, nat_lt, if◌then◌else◌}
use Rattle.std.specs.Cmp.Lexicographic.{pointwise}
use Rattle.std.specs.Ordering.{int_eq}
use Rattle.std.proofs.lemmas.Bool.{cases_eq, cases_lt, eq-eqb, false≢true, le-ltb, lt-ltb, ltb-true, ne_eqb}
use Rattle.std.proofs.lemmas.List.{get_or-append-add, get_or-append_right, get_or-map, get_or_append_left, length-map}
use Rattle.std.proofs.lemmas.List.Elements.{All-append, All-map, All-nil}
use Rattle.rp_table.specs.Sums.{sum_below}
use Rattle.rp_table.proofs.SumsBelow.{sum_below-same}
use Rattle.rp_patch.specs.Choices.{RandomInput}
use Rattle.rp_patch.specs.FirstChoices.{AreNumberedByFirstChoice, FallsIn, IsFirstIn, times_in}
use Rattle.rp_patch.specs.Patches.{PatchList, budget_at, patch_at}
use Rattle.rp_patch.specs.Signs.{signs_of}
use Rattle.rp_patch.specs.Units.{ArePatchesOf, all_chosen, chosen_as, chosen_at, chosen_below, tally_on}
use Rattle.rp_patch.specs.declared.chosen.Chosen.{Chosen}
use Rattle.rp_patch.proofs.TallyEntries.{IsFirstOf, IsTally, signs_at, tallies}

-- what counts on budget j
counting : (a j t : ℕ) → ((a == j) && nat_lt 0 t) ≡ true → (a ≡ j) × (0 < t)
counting a j t does = elim (cases_eq a j) [
  | inl e ↦ (e, ltb-true 0 t (sym (ap (λ b. b && nat_lt 0 t) (eq-eqb a j e)) ∙ does))
  | inr ne ↦ absurd (false≢true (sym (ap (λ b. b && nat_lt 0 t) (ne_eqb a j ne)) ∙ does))
]

it_counts : (a j t : ℕ) → a ≡ j → 0 < t → ((a == j) && nat_lt 0 t) ≡ true
it_counts a j t e made = ap (λ b. b && nat_lt 0 t) (eq-eqb a j e) ∙ lt-ltb 0 t made

abbrev no_one : Chosen
no_one = record { budget = 0; signs = []; times = 0 }

module _ (input : RandomInput) where
  abbrev counts_on : ℕ → ℕ → Bool
  counts_on j c = (input.budget c == j) && nat_lt 0 (input.times c)

  abbrev times_with : ℕ → List ℤ → ℕ
  times_with j signs =
      sum_below input.choices (λ c. if (input.budget c == j) && pointwise int_eq (signs_of input c) signs then input.times c else 0)

  -- a patch has a first choice, and the times of all its choices
  record IsOfChoices (one : Chosen) : Type 0 where
    pub some : (c : ℕ) × IsFirstIn input one.budget one.signs c
    pub together : one.times ≡ times_with one.budget one.signs

  first_in : (j : ℕ) (signs : List ℤ) (c : ℕ) → IsFirstOf (signs_of input) (counts_on j) input.choices signs c → IsFirstIn input j signs c
  first_in j signs c f =
      let on = counting (input.budget c) j (input.times c) f.counting in
      record {
        falls = record { is_choice = f.within; on_budget = on.0; has_signs = f.alike };
        made = on.1;
        first = λ d there made. f.first d there.is_choice (it_counts (input.budget d) j (input.times d) there.on_budget made) there.has_signs;
      }

  first_of : (j : ℕ) (signs : List ℤ) (c : ℕ) → IsFirstIn input j signs c → IsFirstOf (signs_of input) (counts_on j) input.choices signs c
  first_of j signs c f = record {
    within = f.falls.is_choice;
    counting = it_counts (input.budget c) j (input.times c) f.falls.on_budget f.made;
    alike = f.falls.has_signs;
    first = λ d l does alike.
        let on = counting (input.budget d) j (input.times d) does in
        f.first d (record { is_choice = l; on_budget = on.0; has_signs = alike }) on.1;
  }

  -- times of no choice add nothing
  same_terms : (a b : Bool) (t : ℕ) → (if (a && nat_lt 0 t) && b then t else 0) ≡ (if a && b then t else 0)
  same_terms true b t = at_least_once b t (cases_lt 0 t)
    where
      at_least_once : (b : Bool) (t : ℕ) → (0 < t) ⊎ (t ≤ 0) → (if nat_lt 0 t && b then t else 0) ≡ (if b then t else 0)
      at_least_once b t (inl l) = ap (λ a. if a && b then t else 0) (lt-ltb 0 t l)
      at_least_once true t (inr l) = ap (λ a. if a && true then t else 0) (le-ltb 0 t l) ∙ omega (arith, l)
      at_least_once false t (inr l) = ap (λ a. if a && false then t else 0) (le-ltb 0 t l)
  same_terms false b t = refl

  abbrev tally_is : (j : ℕ) → IsTally (signs_of input) (counts_on j) input.times input.choices (tally_on input j)
  tally_is j = tallies (signs_of input) (counts_on j) input.times input.choices

  of_tally : (j k : ℕ) → k < length (tally_on input j) → IsOfChoices (chosen_as j (get_or (tally_on input j) k ([], 0)))
  of_tally j k l =
      let found = (tally_is j).each k l in
      record {
        some = (found.0, first_in j (signs_at (tally_on input j) k) found.0 found.1);
        together = (tally_is j).together k l
            ∙ sum_below-same _ _ input.choices
            (λ c w. same_terms (input.budget c == j) (pointwise int_eq (signs_of input c) (signs_at (tally_on input j) k)) (input.times c));
      }

  abbrev IsBelow : ℕ → Chosen → Type 0
  IsBelow j one = (one.budget < j) × IsOfChoices one

  abbrev IsOn : ℕ → Chosen → Type 0
  IsOn j one = (one.budget ≡ j) × IsOfChoices one

  abbrev IsFirstAt : List Chosen → ℕ → ℕ → Type 0
  IsFirstAt xs i c = IsFirstIn input (chosen_at xs i).budget (chosen_at xs i).signs c

  abbrev FallsAt : List Chosen → ℕ → ℕ → Type 0
  FallsAt xs i c = FallsIn input (chosen_at xs i).budget (chosen_at xs i).signs c

  abbrev ComesFirst : List Chosen → ℕ → ℕ → ℕ → ℕ → Type 0
  ComesFirst xs h i c d =
      ((chosen_at xs h).budget < (chosen_at xs i).budget) ⊎ (((chosen_at xs h).budget ≡ (chosen_at xs i).budget) × (c < d))

  -- the patches of budget j
  abbrev on_budget : ℕ → List Chosen
  on_budget j = map (chosen_as j) (tally_on input j)

  at_place : (j k : ℕ) → k < length (tally_on input j) → chosen_at (on_budget j) k ≡ chosen_as j (get_or (tally_on input j) k ([], 0))
  at_place j k l = get_or-map (chosen_as j) (tally_on input j) k ([], 0) no_one l

  in_tally : (j k : ℕ) → k < length (on_budget j) → k < length (tally_on input j)
  in_tally j k l = omega (arith, l, length-map (tally_on input j) (chosen_as j))

  all_on : (j : ℕ) → All (IsOn j) (on_budget j)
  all_on j = All-map (IsOn j) (chosen_as j) (tally_on input j) (λ k d l. (refl, subst IsOfChoices (ap (chosen_as j) (same_read k d l)) (of_tally j k l)))
    where
      same_read : (k : ℕ) (d : List ℤ × ℕ) → k < length (tally_on input j) → get_or (tally_on input j) k ([], 0) ≡ get_or (tally_on input j) k d
      same_read k d l = any_default (tally_on input j) k ([], 0) d l
        where
          any_default : (xs : List (List ℤ × ℕ)) (k : ℕ) (d e : List ℤ × ℕ) → k < length xs → get_or xs k d ≡ get_or xs k e
          any_default [] k d e l = absurd (omega (arith, l))
          any_default (x ∷ xs) zero d e l = refl
          any_default (x ∷ xs) (suc k) d e l = any_default xs k d e (omega (arith, l))

  order_on : (j h k c d : ℕ) → h < k → k < length (on_budget j) → IsFirstAt (on_budget j) h c → IsFirstAt (on_budget j) k d → c < d
  order_on j h k c d l lk f g =
      let in_k : k < length (tally_on input j) = in_tally j k lk in
      let in_h : h < length (tally_on input j) = omega (arith, l, in_k) in
      (tally_is j).in_order h k c d l in_k
      (first_of j (signs_at (tally_on input j) h) c (subst (λ one. IsFirstIn input one.budget one.signs c) (at_place j h in_h) f))
      (first_of j (signs_at (tally_on input j) k) d (subst (λ one. IsFirstIn input one.budget one.signs d) (at_place j k in_k) g))

  falls_on : (j c : ℕ) → c < input.choices → input.budget c ≡ j → 0 < input.times c
      → (k : ℕ) × (k < length (on_budget j)) × FallsAt (on_budget j) k c
  falls_on j c l is made =
      let found = (tally_is j).all c l (it_counts (input.budget c) j (input.times c) is made) in (
        found.0,
        omega (arith, found.1, length-map (tally_on input j) (chosen_as j)),
        subst (λ one. FallsIn input one.budget one.signs c) (sym (at_place j found.0 found.1))
            (record { is_choice = l; on_budget = is; has_signs = sym found.2 }),
      )

  -- ---- the patches of the first budgets

  record AreFirst (j : ℕ) (xs : List Chosen) : Type 0 where
    pub each : All (IsBelow j) xs
    pub all : (c : ℕ) → c < input.choices → input.budget c < j → 0 < input.times c → (i : ℕ) × (i < length xs) × FallsAt xs i c
    pub in_order : (h i c d : ℕ) → h < i → i < length xs → IsFirstAt xs h c → IsFirstAt xs i d → ComesFirst xs h i c d

  more : (j : ℕ) (xs : List Chosen) → AreFirst j xs → AreFirst (suc j) (xs ++ on_budget j)
  more j xs t = record {
    each = All-append (IsBelow (suc j)) xs (on_budget j)
        (λ k d l. let here = t.each k d l in (omega (arith, here.0), here.1))
        (λ k d l. let here = all_on j k d l in (omega (arith, here.0), here.1));
    all = λ c l below made. elim (cases_eq (input.budget c) j) [
      | inl is ↦
          let found = falls_on j c l is made in (
            length xs + found.0,
            omega (arith, found.1, many),
            subst (λ one. FallsIn input one.budget one.signs c) (sym (get_or-append-add xs (on_budget j) found.0 no_one)) found.2,
          )
      | inr ne ↦
          let found = t.all c l (omega (arith, below, ne)) made in (
            found.0,
            omega (arith, found.1, many),
            subst (λ one. FallsIn input one.budget one.signs c) (sym (get_or_append_left xs (on_budget j) no_one found.0 found.1)) found.2,
          )
    ];
    in_order = λ h i c d l li f g. by h i c d l li f g (cases_lt h (length xs)) (cases_lt i (length xs));
  }
    where
      many : length (xs ++ on_budget j) ≡ length xs + length (on_budget j)
      many = length-append xs (on_budget j)

      left : (h : ℕ) → h < length xs → chosen_at (xs ++ on_budget j) h ≡ chosen_at xs h
      left h l = get_or_append_left xs (on_budget j) no_one h l

      right : (h : ℕ) → length xs ≤ h → chosen_at (xs ++ on_budget j) h ≡ chosen_at (on_budget j) (h - length xs)
      right h l = get_or-append_right xs (on_budget j) (length xs) h no_one refl l

      moved : (a b x y : Chosen) (c d : ℕ) → a ≡ x → b ≡ y → (x.budget < y.budget) ⊎ ((x.budget ≡ y.budget) × (c < d))
          → (a.budget < b.budget) ⊎ ((a.budget ≡ b.budget) × (c < d))
      moved a b x y c d e f is = rw (e, f) is

      by : (h i c d : ℕ) → h < i → i < length (xs ++ on_budget j) → IsFirstAt (xs ++ on_budget j) h c → IsFirstAt (xs ++ on_budget j) i d
          → (h < length xs) ⊎ (length xs ≤ h) → (i < length xs) ⊎ (length xs ≤ i) → ComesFirst (xs ++ on_budget j) h i c d
      by h i c d l li f g (inl a) (inl b) =
          moved _ _ (chosen_at xs h) (chosen_at xs i) c d (left h a) (left i b)
          (t.in_order h i c d l b (subst (λ one. IsFirstIn input one.budget one.signs c) (left h a) f)
          (subst (λ one. IsFirstIn input one.budget one.signs d) (left i b) g))
      by h i c d l li f g (inl a) (inr b) =
          let first = t.each h no_one a in
          let second = all_on j (i - length xs) no_one (omega (arith, many, li, b)) in
          moved _ _ (chosen_at xs h) (chosen_at (on_budget j) (i - length xs)) c d (left h a) (right i b) (inl (omega (arith, first.0, second.0)))
      by h i c d l li f g (inr a) (inl b) = absurd (omega (arith, a, b, l))
      by h i c d l li f g (inr a) (inr b) =
          let first = all_on j (h - length xs) no_one (omega (arith, many, li, a, l)) in
          let second = all_on j (i - length xs) no_one (omega (arith, many, li, b)) in
          moved _ _ (chosen_at (on_budget j) (h - length xs)) (chosen_at (on_budget j) (i - length xs)) c d (right h a) (right i b)
          (inr (
            first.0 ∙ sym second.0,
            order_on j (h - length xs) (i - length xs) c d (omega (arith, a, b, l)) (omega (arith, many, li, b))
                (subst (λ one. IsFirstIn input one.budget one.signs c) (right h a) f)
                (subst (λ one. IsFirstIn input one.budget one.signs d) (right i b) g),
          ))

  first_ones : (j : ℕ) → AreFirst j (chosen_below input j)
  first_ones zero = record {
    each = All-nil (IsBelow 0);
    all = λ c l below made. absurd (omega (arith, below));
    in_order = λ h i c d l li f g. absurd (omega (arith, li));
  }
  first_ones (suc j) = more j (chosen_below input j) (first_ones j)

  -- ---- patches of them

  module _ (asked : Option ℕ) (p : PatchList) (are : ArePatchesOf input asked p) where
    in_chosen : (i : ℕ) → i < length p.patches → i < length (all_chosen input)
    in_chosen i l = omega (arith, l, are.count)

    to_patch : (i c : ℕ) → i < length p.patches → IsFirstAt (all_chosen input) i c → IsFirstIn input (budget_at p i) (patch_at p i).signs c
    to_patch i c l f = subst (λ j. IsFirstIn input j (patch_at p i).signs c) (sym (are.budget i l))
        (subst (λ s. IsFirstIn input (chosen_at (all_chosen input) i).budget s c) (sym (are.signs i l)) f)

    from_patch : (i c : ℕ) → i < length p.patches → IsFirstIn input (budget_at p i) (patch_at p i).signs c → IsFirstAt (all_chosen input) i c
    from_patch i c l f = subst (λ s. IsFirstIn input (chosen_at (all_chosen input) i).budget s c) (are.signs i l)
        (subst (λ j. IsFirstIn input j (patch_at p i).signs c) (are.budget i l) f)

    falls_in_patch : (i c : ℕ) → i < length p.patches → FallsAt (all_chosen input) i c → FallsIn input (budget_at p i) (patch_at p i).signs c
    falls_in_patch i c l f = record {
      is_choice = f.is_choice;
      on_budget = f.on_budget ∙ sym (are.budget i l);
      has_signs = f.has_signs ∙ sym (are.signs i l);
    }

    pub numbered : AreNumberedByFirstChoice input p
    numbered = record {
      each = λ i l.
          let here = (first_ones input.budgets).each i no_one (in_chosen i l) in
          (here.1.some.0, to_patch i here.1.some.0 l here.1.some.1);
      all = λ c l below made.
          let found = (first_ones input.budgets).all c l below made in
          let in_p : found.0 < length p.patches = omega (arith, found.1, are.count) in
          (found.0, in_p, falls_in_patch found.0 c in_p found.2);
      in_order = λ h i c d l li f g.
          let lh : h < length p.patches = omega (arith, l, li) in
          rw (are.budget h lh, are.budget i li)
          ((first_ones input.budgets).in_order h i c d l (in_chosen i li) (from_patch h c lh f) (from_patch i d li g));
    }

    pub times_together : (i : ℕ) → i < length p.patches → (chosen_at (all_chosen input) i).times ≡ times_in input p i
    times_together i l =
        let here = (first_ones input.budgets).each i no_one (in_chosen i l) in
        here.1.together
        ∙ (λ k. sum_below input.choices (λ c.
        if (input.budget c == sym (are.budget i l) k) && pointwise int_eq (signs_of input c) (sym (are.signs i l) k) then input.times c else 0))
