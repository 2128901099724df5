-- The first tableau, whose rows are made of themselves.
use Rattle.std.proofs.Common.{◌≡◌, ℕ, suc, ◌^◌, ◌<◌, ◌≤◌, ℤ, pos, ◌*ℤ◌, List, slice_index, refl, sym, ◌∙◌, ap, subst, arith}
use Rattle.std.specs.Int.RustNames.{unsigned_abs}
use Rattle.std.proofs.lemmas.Int.{ints}
use Rattle.rp_farkas.specs.LinearProgram.{LinearProgram}
use Rattle.rp_farkas.specs.Limits.{FitsEvidence, largest_entry}
use Rattle.rp_farkas.proofs.Totals.{total-same}
use Rattle.rp_grid.specs.Rows.{Rows}
use Rattle.rp_simplex.specs.Cells.{cell}
use Rattle.rp_simplex.specs.InnerCombined.{combination, delta}
use Rattle.rp_simplex.specs.FirstTableau.{IsFirstTableau}
use Rattle.rp_simplex.specs.InnerRows.{HasFirstEntries}
use Rattle.rp_simplex.proofs.Linear.{total-delta}
use Rattle.rp_simplex.proofs.Sound.{first-slack}

pub starting_slacks : (p : LinearProgram) (columns : Rows ℤ) → HasFirstEntries p columns → (k s : ℕ) → k < p.rows → s ≤ p.rows → cell columns (suc k) s ≡ delta s k
starting_slacks p columns entries k s hk hs = (entries (suc k) s (omega arith) hs).value_is ∙ first-slack p s k hk

module _ (rows : ℕ) (multipliers : Rows ℤ) (units : (i s : ℕ) → i ≤ rows → s ≤ rows → cell multipliers i s ≡ delta i s) where
  times_one : (z : ℤ) → z ≡ z *ℤ pos 1
  times_one z = omega (arith, ints)

  pub starting_objective : (i : ℕ) → i ≤ rows → cell multipliers i rows ≡ delta i rows *ℤ pos 1
  starting_objective i hi = units i rows hi (omega arith) ∙ times_one (delta i rows)

  pub starting_combination : (columns : Rows ℤ) (i j : ℕ) → i ≤ rows → combination rows multipliers columns i j ≡ cell columns j i
  starting_combination columns i j hi =
      total-same (suc rows) (λ s. cell multipliers i s *ℤ cell columns j s) (λ s. delta i s *ℤ cell columns j s) (λ s hs. ap (λ z. z *ℤ cell columns j s) (units i s hi (omega arith)))
      ∙ total-delta (suc rows) i (cell columns j) (omega arith)

  pub starting_fits : (columns : Rows ℤ) (i j : ℕ) → i ≤ rows → unsigned_abs (cell columns j i) ≤ largest_entry → FitsEvidence (unsigned_abs (combination rows multipliers columns i j))
  starting_fits columns i j hi small = subst (λ z. unsigned_abs z < 2 ^ 63) (sym (starting_combination columns i j hi)) (omega arith)

pub first_tableau : (p : LinearProgram) (rows : ℕ) (multipliers columns : Rows ℤ) (basis : List ℕ) → rows ≡ p.rows → ((i s : ℕ) → i ≤ rows → s ≤ rows → cell multipliers i s ≡ delta i s)
    → HasFirstEntries p columns → ((i : ℕ) → i < rows → slice_index basis i ≡ suc i) → IsFirstTableau p (record { den = 1; at = combination rows multipliers columns; basis = slice_index basis })
first_tableau p rows multipliers columns basis same units entries slacks = record {
  over_one = refl;
  entries = λ i j hi hj. starting_combination rows multipliers units columns i j (omega (arith, same)) ∙ (entries j i hj hi).value_is;
  slacks = λ i hi. slacks i (omega (arith, same));
}
