-- The bound that the outcome of a run gives.
use Rattle.std.proofs.Common.{◌≡◌, ◌<◌, ◌≤◌, ◌*◌, ℕ, ℤ, pos, ◌*ℤ◌, ◌≤ℤ◌, List, subst, sym, ap, arith, slice_index}
use Rattle.std.proofs.lemmas.Int.{ints}
use Rattle.std.proofs.Math.Nat.{le_of_mul-le-mul_right, mul-le-mul_right}
use Rattle.std.specs.Int.RustNames.{unsigned_abs}
use Rattle.rp_num.specs.Fraction.{Fraction, IsLowestTerms}
use Rattle.rp_evidence.specs.BoundEvidence.{BoundHolds}
use Rattle.rp_evidence.specs.declared.demand.Bound.{Bound}
use Rattle.rp_evidence.specs.declared.demand.Bound.TheVariants.{Shown, Wide}
use Rattle.rp_farkas.specs.Best.{HasNoBound, IsBestPrices, IsLeastCost}
use Rattle.rp_farkas.specs.LinearProgram.{LinearProgram}
use Rattle.rp_farkas.specs.Prices.{IsFeasiblePrices, value_of_prices}
use Rattle.rp_farkas.specs.declared.entry.Entry.{Entry}
use Rattle.rp_farkas.specs.declared.entry.Pair.{Pair}
use Rattle.rp_simplex.specs.Evidence.{IsEvidence}
use Rattle.rp_simplex.specs.Outcome.{IsOutcome, EndsPastWidth}
use Rattle.rp_simplex.specs.SameOutcome.{IsSameOutcome}
use Rattle.rp_simplex.specs.declared.outcome.Outcome.{Outcome}
use Rattle.rp_simplex.specs.declared.outcome.Outcome.TheVariants.{Optimal, Unbounded, Wide as PassedWidth}
use Rattle.rp_simplex.specs.ProgramBound.{IsBoundOf}

IsShown : Bound → Type 0
IsShown (Shown value pair) = Unit {0}
IsShown (Wide step) = ⊥

step_in : Bound → ℕ
step_in (Shown value pair) = 0
step_in (Wide step) = step

module _ (p : LinearProgram) (measure : (ℕ → ℕ) → ℕ) (o : Outcome) (run : IsOutcome p o) (only : (other : Outcome) → IsOutcome p other → IsSameOutcome p o other) (evidence : IsEvidence p o) where
  pub shown : (pair : Pair) (value : Fraction) → o ≡ Optimal pair → IsLowestTerms (measure (slice_index pair.x)) pair.den value
      → IsBoundOf p measure (Shown value pair)
  unfolding IsShown
  shown pair value e lowest =
      let shows = subst (λ (r : Outcome). IsEvidence p r) e evidence in
      let others = subst (λ (r : Outcome). (other : Outcome) → IsOutcome p other → IsSameOutcome p r other) e only in
      record {
        run = subst (λ (r : Outcome). IsOutcome p r) e run;
        only = others;
        withheld = λ step. ((λ same. absurd (subst (λ (b : Bound). IsShown b) same tt)), (λ passes. absurd (others (PassedWidth step) passes)));
        evidence = shows;
        value = (shows.0, lowest);
      }

  pub withheld : (step : ℕ) → o ≡ PassedWidth step → IsBoundOf p measure (Wide step)
  unfolding step_in
  withheld step e =
      let passes = subst (λ (r : Outcome). IsOutcome p r) e run in
      let others = subst (λ (r : Outcome). (other : Outcome) → IsOutcome p other → IsSameOutcome p r other) e only in
      record {
        run = passes;
        only = others;
        withheld = λ other. (
          (λ same. subst (λ (n : ℕ). EndsPastWidth p n) (ap step_in same) passes),
          (λ passes'. ap (λ (n : ℕ). Wide n) (others (PassedWidth other) passes')),
        );
        evidence = tt;
        value = tt;
      }

  -- a bounded program has no unbounded run
  pub never_unbounded : ¬ HasNoBound p → (den : ℕ) (point ray : List Entry) → o ≡ Unbounded den point ray → ⊥
  never_unbounded bounded den point ray e = bounded (subst (λ (r : Outcome). IsEvidence p r) e evidence).1

-- ---- another word for the same measure

module _ (p : LinearProgram) (m m' : (ℕ → ℕ) → ℕ) (same : (x : ℕ → ℕ) → m x ≡ m' x) where
  same_value : (bound : Bound) → BoundHolds p m bound → BoundHolds p m' bound
  same_value (Shown value pair) holds = (holds.0, subst (λ (n : ℕ). IsLowestTerms n pair.den value) (same (slice_index pair.x)) holds.1)
  same_value (Wide step) holds = tt

  pub same_measure : (bound : Bound) → IsBoundOf p m bound → IsBoundOf p m' bound
  same_measure bound is = record {
    run = is.run;
    only = is.only;
    withheld = is.withheld;
    evidence = is.evidence;
    value = same_value bound is.value;
  }

-- ---- the least cost in lowest terms

scaled_at_most : (n d n' d' b s : ℕ) → 0 < d → n' * d ≡ n * d' → n * b ≤ s * d → n' * b ≤ s * d'
scaled_at_most n d n' d' b s positive same h =
    let p : n * b * d' ≤ s * d * d' = mul-le-mul_right d' h in
    let q : n' * d * b ≡ n * d' * b = ap (λ (z : ℕ). z * b) same in
    let r : n' * b * d ≤ s * d' * d = omega (arith, p, q) in
    le_of_mul-le-mul_right r positive

module _ (p : LinearProgram) (whole : (x : ℕ → ℕ) → value_of_prices p x ≡ pos (unsigned_abs (value_of_prices p x))) (den : ℕ) (x : ℕ → ℕ) (best : IsBestPrices p den x) where
  pub least_in_lowest_terms : (f : Fraction) → IsLowestTerms (unsigned_abs (value_of_prices p x)) den f → IsLeastCost p f.num f.den
  least_in_lowest_terms f lowest = record {
    fraction = omega (arith, lowest.positive);
    none_less = none_less;
    attained = (den, x, best.feasible, same);
  }
    where
      none_less : (d : ℕ) (w : ℕ → ℕ) → IsFeasiblePrices p d w → pos (f.num * d) ≤ℤ (value_of_prices p w *ℤ pos f.den)
      none_less d w feasible =
          let n = unsigned_abs (value_of_prices p x) in
          let s = unsigned_abs (value_of_prices p w) in
          let e : value_of_prices p x ≡ pos n = whole x in
          let e' : value_of_prices p w ≡ pos s = whole w in
          let h : (pos n *ℤ pos d) ≤ℤ (pos s *ℤ pos den) = subst (λ (z : ℤ). (z *ℤ pos d) ≤ℤ (pos s *ℤ pos den)) e (subst (λ (z : ℤ). (value_of_prices p x *ℤ pos d) ≤ℤ (z *ℤ pos den)) e' (best.no_lower d w feasible)) in
          let k : n * d ≤ s * den = omega (arith, ints, h) in
          let m = scaled_at_most n den f.num f.den d s best.feasible.den_positive lowest.same_number k in
          subst (λ (z : ℤ). pos (f.num * d) ≤ℤ (z *ℤ pos f.den)) (sym e') (omega (arith, ints, m))

      same : (value_of_prices p x *ℤ pos f.den) ≡ pos (f.num * den)
      same =
          let n = unsigned_abs (value_of_prices p x) in
          subst (λ (z : ℤ). (z *ℤ pos f.den) ≡ pos (f.num * den)) (sym (whole x)) (ap pos (omega (arith, lowest.same_number)))
