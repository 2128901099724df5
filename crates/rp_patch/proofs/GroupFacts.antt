-- What groups in a list are: each place is of one of them, and the first place of each comes after those before it.
use Rattle.std.proofs.Common.{◌≡◌, ℕ, zero, suc, ◌-◌, ◌<◌, ◌≤◌, ◌^◌, ◌==◌, inl, inr, List, length, slice_index, subst, arith, add-one, if◌then◌else◌}
use Rattle.std.proofs.lemmas.Bool.{cases_eq}
use Rattle.rp_table.specs.Sums.{sum_below}
use Rattle.rp_patch.specs.Apportionment.{AreGrouped, groups_in}

-- a sum of fewer terms is less
pub sum_of_fewer : (f : ℕ → ℕ) (n m : ℕ) → n ≤ m → sum_below n f ≤ sum_below m f
sum_of_fewer f n zero le = let none : n ≡ 0 = omega (arith, le) in rw none (omega arith)
sum_of_fewer f n (suc m) le = elim (cases_eq n (suc m)) [
  | inl e ↦ rw e (omega arith)
  | inr d ↦ omega (arith, sum_of_fewer f n m (omega (arith, le, d)))
]

module _ (groups counts : List ℕ) (are : AreGrouped groups counts) where
  pub group_small : (i : ℕ) → i < length groups → slice_index groups i ≤ i
  group_small zero within = omega (arith, are.first)
  group_small (suc i) within =
      let before = group_small i (omega (arith, within)) in
      subst (λ k. slice_index groups k ≤ k) (add-one i)
      (elim (are.next i (omega (arith, within))) [ inl same ↦ omega (arith, same, before) | inr more ↦ omega (arith, more, before) ])

  pub group_rises : (h i : ℕ) → h ≤ i → i < length groups → slice_index groups h ≤ slice_index groups i
  group_rises h zero le within = let first : h ≡ 0 = omega (arith, le) in rw first (omega arith)
  group_rises h (suc i) le within = elim (cases_eq h (suc i)) [
    | inl e ↦ rw e (omega arith)
    | inr d ↦
        let before = group_rises h i (omega (arith, le, d)) (omega (arith, within)) in
        subst (λ k. slice_index groups h ≤ slice_index groups k) (add-one i)
        (elim (are.next i (omega (arith, within))) [ inl same ↦ omega (arith, same, before) | inr more ↦ omega (arith, more, before) ])
  ]

  pub group_within : (i : ℕ) → i < length groups → slice_index groups i < groups_in groups
  group_within i within = omega (arith, group_rises i (length groups - 1) (omega (arith, within)) (omega (arith, within)))

  -- what the first places of a group have is a part of all
  pub part_small : (j n : ℕ) → j < groups_in groups → n ≤ length groups
      → sum_below n (λ i. if slice_index groups i == j then slice_index counts i else 0) < 2 ^ 36
  part_small j n below within =
      omega (arith, sum_of_fewer (λ i. if slice_index groups i == j then slice_index counts i else 0) n (length groups) within, are.small j below)
