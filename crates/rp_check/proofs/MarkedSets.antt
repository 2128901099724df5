-- The observations below a new budget and strictly below it, by what marks are led to.
use Rattle.std.proofs.Common.{◌≡◌, ◌<◌, ◌+◌, ◌↔◌, inl, inr, ℕ, Bool, false, IsTrue, List, length, length-set, set, sym, subst, ◌∙◌, arith}
use Rattle.std.proofs.lemmas.Bool.{cases_eq}
use Rattle.std.proofs.lemmas.List.{get_or-set_other, get_or-set_same}
use Rattle.rp_evidence.specs.Demand.{BudgetInput, Buys, IsBelow, IsStrictStart, IsStrictlyBelow}
use Rattle.rp_evidence.specs.Input.{TableInput}
use Rattle.rp_evidence.specs.Preference.{IsWeak}
use Rattle.rp_evidence.proofs.EqualOrReached.{leads_by, rest_of}
use Rattle.rp_evidence.proofs.StrictStarts.{below_exactly, strictly_exactly}
use Rattle.rp_evidence.specs.Marks.{AreMarked}
use Rattle.rp_clauses.specs.ReachedMarks.{IsReachedFromMarked}

module _ (input : TableInput) (budget : BudgetInput) where
  pub marks_below : (starts marks : List Bool) → AreMarked input.n (Buys input budget) starts → AreMarked input.n (IsReachedFromMarked input.n (IsWeak input.cost) starts) marks
      → AreMarked input.n (IsBelow input budget) marks
  marks_below starts marks told led t t_in = (
    (λ h. let k = (led t t_in).0 h in (below_exactly input budget t).0 (k.0, k.1, (told k.0 k.1).0 k.2, leads_by input k.0 t k.3 k.4)),
    (λ b.
        let k = (below_exactly input budget t).1 b in
        let w = rest_of input k.0 t k.3 in
        (led t t_in).1 (k.0, k.1, (told k.0 k.1).1 k.2, w.0, w.1)),
  )

  pub marks_strictly : (starts marks : List Bool) → AreMarked input.n (IsStrictStart input budget) starts → AreMarked input.n (IsReachedFromMarked input.n (IsWeak input.cost) starts) marks
      → AreMarked input.n (IsStrictlyBelow input budget) marks
  marks_strictly starts marks told led t t_in = (
    (λ h. let k = (led t t_in).0 h in (strictly_exactly input budget t).0 (k.0, k.1, (told k.0 k.1).0 k.2, leads_by input k.0 t k.3 k.4)),
    (λ b.
        let k = (strictly_exactly input budget t).1 b in
        let w = rest_of input k.0 t k.3 in
        (led t t_in).1 (k.0, k.1, (told k.0 k.1).1 k.2, w.0, w.1)),
  )

-- ---- marks by what each observation is asked

-- The first marks are those of which P holds.
pub record AreMarkedTo (size : ℕ) (P : ℕ → Type 0) (marks : List Bool) (end : ℕ) : Type 0 where
  pub long : length marks ≡ size
  pub each : AreMarked end P marks

module _ (size : ℕ) (P : ℕ → Type 0) where
  pub marked_more : (marks : List Bool) (s : ℕ) → AreMarkedTo size P marks s → s < size → (b : Bool) → IsTrue b ↔ P s → AreMarkedTo size P (set marks s b) (s + 1)
  marked_more marks s so_far within b told = record {
    long = length-set marks s b ∙ so_far.long;
    each = λ t l. elim (cases_eq t s) [
      | inl e ↦ rw e (subst (λ x. IsTrue x ↔ P s) (sym (get_or-set_same marks s b false (omega (arith, within, so_far.long)))) told)
      | inr d ↦ subst (λ x. IsTrue x ↔ P t) (sym (get_or-set_other marks s t b false d)) (so_far.each t (omega arith))
    ];
  }
