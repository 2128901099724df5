-- Units of groups are determined, with a unit and without, and so are patches. By largest remainders: were one place
-- raised here and not there, another of its group would be raised there and not here, since both share the total, and
-- each of the two would come before the other.
use Rattle.std.proofs.Common.{◌≡◌, ℕ, zero, suc, ◌+◌, ◌<◌, ◌==◌, ◌⊎◌, inl, inr, Option, Some, None, length, refl, sym, subst, ◌∙◌, arith, if◌then◌else◌}
use Rattle.std.proofs.Math.Nat.{eq_of_mul-eq-mul_right, eq-zero_of_zero-dvd}
use Rattle.std.proofs.lemmas.List.{ext_get_or}
use Prim.Native.Nat.{◌∣◌}
use Rattle.rp_table.specs.Sums.{sum_below}
use Rattle.rp_patch.specs.Apportionment.{GroupedCounts, HasApportionedShares, HasExactShares, HasShares, counts_in, rest_of, whole_of}
use Rattle.rp_patch.specs.Choices.{RandomInput}
use Rattle.rp_patch.specs.Patches.{IsPatchList, PatchList, no_patch, patch_at, units_at}
use Rattle.rp_patch.specs.Units.{ArePatchesOf, all_chosen, chosen_at, chosen_counts}
use Rattle.rp_patch.specs.declared.patch_list.Patch.{Patch}
use Rattle.rp_patch.proofs.Apart.{counts_less, counts_same, other_more}
use Rattle.rp_patch.proofs.ChosenLaws.{chosen_budget}

-- Units of the first n places, which share the total of their budgets: each has the whole part or one more, the largest rests first.
pub record IsShared (n : ℕ) (budget whole rest : ℕ → ℕ) (total : ℕ) (units : ℕ → ℕ) : Type 0 where
  pub each : (i : ℕ) → i < n → (units i ≡ whole i) ⊎ (units i ≡ whole i + 1)
  pub together : (i : ℕ) → i < n → sum_below n (λ k. if budget k == budget i then units k else 0) ≡ total
  pub largest : (h i : ℕ) → h < n → i < n → budget h ≡ budget i → units h ≡ whole h + 1 → units i ≡ whole i
      → (rest i < rest h) ⊎ ((rest h ≡ rest i) × (h < i))

module _ (n : ℕ) (budget whole rest : ℕ → ℕ) (total : ℕ) where
  -- of two places only one comes first
  one_first : (h i : ℕ) → (rest i < rest h) ⊎ ((rest h ≡ rest i) × (h < i)) → (rest h < rest i) ⊎ ((rest i ≡ rest h) × (i < h)) → ⊥
  one_first h i (inl a) (inl b) = omega (arith, a, b)
  one_first h i (inl a) (inr b) = omega (arith, a, b.0)
  one_first h i (inr a) (inl b) = omega (arith, a.0, b)
  one_first h i (inr a) (inr b) = omega (arith, a.1, b.1)

  -- no place is rounded up in one and not in the other
  not_apart : (one other : ℕ → ℕ) → IsShared n budget whole rest total one → IsShared n budget whole rest total other
      → (i : ℕ) → i < n → one i ≡ whole i + 1 → other i ≡ whole i → ⊥
  not_apart one other a b i within rounded_up not_rounded_up =
      let here = counts_same (budget i) (budget i) (one i) refl in
      let there = counts_same (budget i) (budget i) (other i) refl in
      let found = other_more (λ k. if budget k == budget i then one k else 0) (λ k. if budget k == budget i then other k else 0) n i
      (a.together i within ∙ sym (b.together i within)) within (omega (arith, here, there, rounded_up, not_rounded_up)) in
      go found.0 found.1 (counts_less (budget found.0) (budget i) (one found.0) (other found.0) found.2)
    where
      go : (h : ℕ) → h < n → (budget h ≡ budget i) × (one h < other h) → ⊥
      go h l (same, less) =
          let up : other h ≡ whole h + 1 = elim (b.each h l) [
            | inl w ↦ elim (a.each h l) [ inl v ↦ omega (arith, w, v, less) | inr v ↦ omega (arith, w, v, less) ]
            | inr w ↦ w
          ] in
          let down : one h ≡ whole h = elim (a.each h l) [
            | inl w ↦ w
            | inr w ↦ omega (arith, w, up, less)
          ] in
          one_first h i (b.largest h i l within same up not_rounded_up) (a.largest i h within l (sym same) rounded_up down)

  pub same_shares : (one other : ℕ → ℕ) → IsShared n budget whole rest total one → IsShared n budget whole rest total other
      → (i : ℕ) → i < n → one i ≡ other i
  same_shares one other a b i within = by (a.each i within) (b.each i within)
    where
      by : (one i ≡ whole i) ⊎ (one i ≡ whole i + 1) → (other i ≡ whole i) ⊎ (other i ≡ whole i + 1) → one i ≡ other i
      by (inl v) (inl w) = v ∙ sym w
      by (inl v) (inr w) = absurd (not_apart other one b a i within w v)
      by (inr v) (inl w) = absurd (not_apart one other a b i within v w)
      by (inr v) (inr w) = v ∙ sym w

module _ (g : GroupedCounts) (inside : (i : ℕ) → i < g.places → g.group i < g.groups) where
  -- what places with a unit share
  shared : (unit all : ℕ) (units : ℕ → ℕ) → HasApportionedShares g unit all units → IsShared g.places g.group (whole_of g all) (rest_of g all) all units
  shared unit all units are = record {
    each = are.each;
    together = λ i within. are.together (g.group i) (inside i within);
    largest = are.largest;
  }

  above_zero : (t m : ℕ) → t ∣ m → 0 < m → 0 < t
  above_zero zero m divides positive = absurd (omega (arith, eq-zero_of_zero-dvd divides, positive))
  above_zero (suc t) m divides positive = omega arith

  -- one total
  pub same_all : (asked : Option ℕ) (all every : ℕ) (units others : ℕ → ℕ) → HasShares g asked all units → HasShares g asked every others → all ≡ every
  same_all None all every units others a b =
      let first : HasExactShares g all units = a in
      let second : HasExactShares g every others = b in
      omega (arith, first.total.1 every second.total.0, second.total.1 all first.total.0)
  same_all (Some unit) all every units others a b =
      let first : HasApportionedShares g unit all units = a in
      let second : HasApportionedShares g unit every others = b in
      first.total ∙ sym second.total

  same_under : (asked : Option ℕ) (all : ℕ) (units others : ℕ → ℕ) → HasShares g asked all units → HasShares g asked all others
      → (i : ℕ) → i < g.places → units i ≡ others i
  same_under None all units others a b i within =
      let first : HasExactShares g all units = a in
      let second : HasExactShares g all others = b in
      let positive : 0 < counts_in g (g.group i) = above_zero (counts_in g (g.group i)) all (first.total.0.1 (g.group i) (inside i within)) first.total.0.0 in
      eq_of_mul-eq-mul_right (counts_in g (g.group i)) positive (units i) (others i) (first.each i within ∙ sym (second.each i within))
  same_under (Some unit) all units others a b i within =
      same_shares g.places g.group (whole_of g all) (rest_of g all) all units others (shared unit all units a) (shared unit all others b) i within

  -- one number of units of each place
  pub same_units : (asked : Option ℕ) (all every : ℕ) (units others : ℕ → ℕ) → HasShares g asked all units → HasShares g asked every others
      → (i : ℕ) → i < g.places → units i ≡ others i
  same_units asked all every units others a b i within =
      same_under asked all units others a (subst (λ n. HasShares g asked n others) (sym (same_all asked all every units others a b)) b) i within

module _ (input : RandomInput) where
  inside_chosen : (i : ℕ) → i < length (all_chosen input) → (chosen_at (all_chosen input) i).budget < input.budgets
  inside_chosen i within = chosen_budget input i within

  same_patch : (x y : Patch) → x.budget ≡ y.budget → x.signs ≡ y.signs → x.units ≡ y.units → x ≡ y
  same_patch x y budget signs units = λ k. record { budget = budget k; signs = signs k; units = units k }

  same_patches : (asked : Option ℕ) (p q : PatchList) → ArePatchesOf input asked p → IsPatchList p → ArePatchesOf input asked q → IsPatchList q
      → p.patches ≡ q.patches
  same_patches asked p q a valid b valid_q =
      ext_get_or no_patch p.patches q.patches (a.count ∙ sym b.count) (λ i l.
      let m : i < length q.patches = omega (arith, l, a.count, b.count) in
      same_patch (patch_at p i) (patch_at q i) (a.budget i l ∙ sym (b.budget i m)) (a.signs i l ∙ sym (b.signs i m))
      (same_units (chosen_counts input) inside_chosen asked p.total q.total (units_at p) (units_at q) a.units b.units i (omega (arith, l, a.count))))

  -- all of the list
  pub same_list : (asked : Option ℕ) (p q : PatchList) → ArePatchesOf input asked p → IsPatchList p → ArePatchesOf input asked q → IsPatchList q → p ≡ q
  same_list asked p q a valid b valid_q = λ k. record {
    budgets = (a.budgets ∙ sym b.budgets) k;
    patches = same_patches asked p q a valid b valid_q k;
    total = same_all (chosen_counts input) inside_chosen asked p.total q.total (units_at p) (units_at q) a.units b.units k;
    asked = (a.asked_is ∙ sym b.asked_is) k;
  }
