-- Sums over the places where the multipliers are not 0.
use Rattle.std.proofs.Common.{◌≡◌, ◌≢◌, ℕ, ◌+◌, ◌<◌, ◌≤◌, ℤ, pos, ◌+ℤ◌, ◌*ℤ◌, List, length, get_or, slice_set, refl, sym, ◌∙◌, ap, subst, arith, inl, inr, length-set}
use Rattle.std.specs.Int.{w64}
use mir.Val.{to_z, of_z}
use Rattle.std.proofs.lemmas.Int.{ints}
use Rattle.std.proofs.lemmas.Bool.{cases_eq}
use Rattle.std.proofs.lemmas.List.{get_or-set_same, get_or-set_other}
use Rattle.rp_farkas.specs.Total.{total}
use Rattle.rp_farkas.proofs.Totals.{total-same, total-suc}
use Rattle.rp_simplex.specs.InnerCombined.{ElementsFit, IsGathered}
use Rattle.rp_simplex.proofs.ClearedRows.{back}

pub gathered_start : (xs : List ℤ) (places : List ℕ) → IsGathered 0 xs places 0
unfolding total
gathered_start xs places = record {
  few = omega arith;
  room = omega arith;
  inside = λ q l. absurd (omega arith);
  same = λ f. refl;
}

nothing : (s x y : ℤ) → x ≡ pos 0 → s +ℤ x *ℤ y ≡ s
nothing s x y e = ap (λ z. s +ℤ z *ℤ y) e ∙ omega (arith, ints)

module _ (n : ℕ) (xs : List ℤ) (places : List ℕ) (count : ℕ) (so_far : IsGathered n xs places count) where
  pub gathered_zero : ElementsFit xs → n < length xs → of_z w64 (get_or xs n (pos 0)) ≡ 0 → IsGathered (n + 1) xs places count
  gathered_zero fit inside bits =
      let none : get_or xs n (pos 0) ≡ pos 0 = sym (back (get_or xs n (pos 0)) (fit n inside)) ∙ ap (to_z w64) bits in
      record {
        few = omega (arith, so_far.few);
        room = so_far.room;
        inside = λ q l. omega (arith, so_far.inside q l);
        same = λ f. total-suc n (λ s. get_or xs s (pos 0) *ℤ f s)
            ∙ nothing (total n (λ s. get_or xs s (pos 0) *ℤ f s)) (get_or xs n (pos 0)) (f n) none
            ∙ so_far.same f;
      }

  pub gathered_more : count < length places → IsGathered (n + 1) xs (slice_set places count n) (count + 1)
  gathered_more room =
      let next : List ℕ = slice_set places count n in
      let here : get_or next count 0 ≡ n = get_or-set_same places count n 0 room in
      let before : (q : ℕ) → q ≢ count → get_or next q 0 ≡ get_or places q 0 = λ q ne. get_or-set_other places count q n 0 ne in
      record {
        few = omega (arith, so_far.few);
        room = omega (arith, length-set places count n);
        inside = λ q l. elim (cases_eq q count) [
          | inl e ↦ subst (λ k. get_or next k 0 < n + 1) (sym e) (omega (arith, here))
          | inr ne ↦ omega (arith, before q ne, so_far.inside q (omega arith))
        ];
        same = λ f. total-suc n (λ s. get_or xs s (pos 0) *ℤ f s)
            ∙ ap (λ z. z +ℤ get_or xs n (pos 0) *ℤ f n) (so_far.same f)
            ∙ sym (total-suc count (λ q. get_or xs (get_or next q 0) (pos 0) *ℤ f (get_or next q 0))
            ∙ (λ k. total-same count (λ q. get_or xs (get_or next q 0) (pos 0) *ℤ f (get_or next q 0)) (λ q. get_or xs (get_or places q 0) (pos 0) *ℤ f (get_or places q 0))
            (λ q l. ap (λ p. get_or xs p (pos 0) *ℤ f p) (before q (omega arith))) k +ℤ get_or xs (here k) (pos 0) *ℤ f (here k)));
      }

-- the list after a place is noted
pub still : (xs : List ℤ) (n : ℕ) (places : List ℕ) (count : ℕ) (next : List ℕ) (more : ℕ) → length xs ≤ length places → IsGathered n xs places count → n < length xs
    → next ≡ slice_set places count n → more ≡ count + 1 → (length xs ≤ length next) × IsGathered (n + 1) xs next more
still xs n places count next more room so_far inside is more_is =
    let grown : IsGathered (n + 1) xs (slice_set places count n) (count + 1) = gathered_more n xs places count so_far (omega (arith, so_far.few)) in (
      subst (λ (ps : List ℕ). length xs ≤ length ps) (sym is) (omega (arith, length-set places count n)),
      subst (λ (ps : List ℕ). IsGathered (n + 1) xs ps more) (sym is) (subst (IsGathered (n + 1) xs (slice_set places count n)) (sym more_is) grown),
    )
