-- Where every observation made more than is asked the program has no column, and its run ends where it begins: at no inputs.
use Rattle.std.proofs.Common.{◌≡◌, ◌<◌, ◌≤◌, ◌+◌, ◌*◌, Bool, true, false, cond, eqb, inl, inr, ℕ, zero, suc, ℤ, pos, List, [], ◌∷◌, length, slice_index, refl, sym, subst, ◌∙◌, arith}
use Rattle.std.proofs.lemmas.Bool.{cases_lt, le-ltb}
use Rattle.std.proofs.lemmas.Int.{ints}
use Rattle.std.proofs.lemmas.List.{get_or_default}
use Rattle.std.proofs.lemmas.Nat.Gcd.{dvd-zero, dvd_refl}
use Rattle.std.proofs.Math.Dec.{ltb}
use Rattle.std.specs.Int.RustNames.{unsigned_abs}
use Prim.Native.Nat.{◌∣◌}
use Rattle.rp_evidence.specs.Demand.{spending}
use Rattle.rp_evidence.specs.Input.{TableInput}
use Rattle.rp_evidence.specs.LeastCost.{least_cost_program}
use Rattle.rp_evidence.specs.declared.demand.Bound.{Bound}
use Rattle.rp_evidence.specs.declared.demand.Bound.TheVariants.{Shown, Wide}
use Rattle.rp_farkas.specs.Limits.{FitsEvidence}
use Rattle.rp_farkas.specs.LinearProgram.{LinearProgram}
use Rattle.rp_farkas.specs.Listing.{IsListing}
use Rattle.rp_farkas.specs.declared.entry.Entry.{Entry}
use Rattle.rp_farkas.specs.declared.entry.Pair.{Pair}
use Rattle.rp_num.specs.Fraction.{Fraction, IsLowestTerms}
use Rattle.rp_simplex.specs.Choice.{IsEntering}
use Rattle.rp_simplex.specs.InnerCombined.{delta}
use Rattle.rp_simplex.specs.ExactTableau.{ExactTableau, width_of}
use Rattle.rp_simplex.specs.FirstTableau.{IsFirstTableau, first_entry}
use Rattle.rp_simplex.specs.Outcome.{EndsOptimal}
use Rattle.rp_simplex.specs.Run.{IsTableauAfter, begins, pivots}
use Rattle.rp_simplex.specs.Width.{IsWithinWidth}
use Rattle.rp_simplex.proofs.Linear.{delta-other}
use Rattle.rp_simplex.proofs.Sound.{first-right, first-slack}
use Rattle.rp_limits.specs.declared.table.TheConstants.{LARGEST}
use Rattle.rp_cost.specs.CostBounds.{IsLowerCostBound, ShowsNothing}
use Rattle.rp_producers.specs.OuterSet.{AllMakeMore, ListsNotAbove}
use Rattle.rp_programs.proofs.Spent.{sum_at_most}

fits_delta : (i k : ℕ) → FitsEvidence (unsigned_abs (delta i k))
fits_delta i k = either (eqb i k)
  where
    either : (b : Bool) → FitsEvidence (unsigned_abs (cond b (pos 1) (pos 0)))
    either true = omega arith
    either false = omega arith

same_pos : (a b : ℕ) → pos a ≡ pos b → a ≡ b
same_pos a b h = omega (arith, ints, h)

module _ (p : LinearProgram) (none : p.cols ≡ 0) where
  objective_slack : (t : ExactTableau) (k : ℕ) → IsFirstTableau p t → k < p.rows → t.at p.rows (suc k) ≡ pos 0
  objective_slack t k first l =
      first.entries p.rows (suc k) (omega arith) (omega (arith, l)) ∙ (first-slack p p.rows k l ∙ delta-other p.rows k (λ e. absurd (omega (arith, e, l))))

  not_entering : (t : ExactTableau) (c : ℕ) → IsFirstTableau p t → ¬ IsEntering p.rows (width_of p) t c
  not_entering t zero first entering = absurd (omega (arith, entering.after_right_sides))
  not_entering t (suc k) first entering =
      let z = objective_slack t k first (omega (arith, entering.in_width, none)) in
      let h = entering.negative in
      absurd (omega (arith, ints, z, h))

  at_first : {k : ℕ} {t : ExactTableau} → IsTableauAfter p k t → IsFirstTableau p t
  at_first (begins first) = first
  at_first (pivots before within entering leaving pivot) = absurd (not_entering _ _ (at_first before) entering)

  fits_first : (t : ExactTableau) → IsFirstTableau p t → ((i : ℕ) → i < p.rows → FitsEvidence (unsigned_abs (p.b i))) → IsWithinWidth p.rows (width_of p) t
  fits_first t first small = record {
    den_fits = omega (arith, first.over_one);
    entries_fit = λ i j i_in j_in. subst (λ (z : ℤ). FitsEvidence (unsigned_abs z)) (sym (first.entries i j i_in j_in)) (fits i j i_in (omega (arith, j_in, none)));
  }
    where
      fits : (i j : ℕ) → i ≤ p.rows → j < 1 + p.rows → FitsEvidence (unsigned_abs (first_entry p i j))
      fits i zero i_in j_in = elim (cases_lt i p.rows) [
        | inl l ↦ subst (λ (z : ℤ). FitsEvidence (unsigned_abs z)) (sym (first-right p i l)) (small i l)
        | inr g ↦ (let past : ltb i p.rows ≡ false = le-ltb i p.rows g in rw past (omega arith))
      ]
      fits i (suc k) i_in j_in = subst (λ (z : ℤ). FitsEvidence (unsigned_abs z)) (sym (first-slack p i k (omega (arith, j_in)))) (fits_delta i k)

  no_entries : (y : List Entry) → IsListing p.cols y → y ≡ []
  no_entries [] l = refl
  no_entries (e ∷ es) l = let h = l.columns 0 e (omega arith) in absurd (omega (arith, h, none))

  no_prices : (pair : Pair) → EndsOptimal p pair → (i : ℕ) → i < p.rows → slice_index pair.x i ≡ 0
  no_prices pair ends i l = same_pos (slice_index pair.x i) 0 (ends.x_at i l ∙ objective_slack ends.last i (at_first ends.reached) l)

no_cost : (inputs : ℕ) (prices x : ℕ → ℕ) → ((i : ℕ) → i < inputs → x i ≡ 0) → spending inputs prices x ≡ 0
no_cost inputs prices x all =
    let h = sum_at_most inputs 0 (λ i. prices i * x i) (λ i l. rw (all i l) (omega arith)) in
    omega (arith, h)

zero_in_lowest : (n d : ℕ) (value : Fraction) → n ≡ 0 → d ≡ 1 → IsLowestTerms n d value → (value.num ≡ 0) × (value.den ≡ 1)
zero_in_lowest n d value z one lowest =
    let same : value.num * 1 ≡ 0 * value.den = subst (λ (k : ℕ). value.num * k ≡ 0 * value.den) one (subst (λ (k : ℕ). value.num * d ≡ k * value.den) z lowest.same_number) in
    let num : value.num ≡ 0 = omega (arith, same) in
    (num, lowest.coprime value.den (subst (λ (k : ℕ). value.den ∣ k) (sym num) (dvd-zero value.den)) (dvd_refl value.den))

module _ (input : TableInput) (y : ℕ → ℕ) (y0 : ℕ) (prices : ℕ → ℕ) (more : AllMakeMore input y y0) where
  none_listed : (listed : List ℕ) → ListsNotAbove input y y0 listed → length listed ≡ 0
  none_listed listed lists = elim (cases_lt 0 (length listed)) [
    | inl some ↦
        let there = (lists.just_these (slice_index listed 0)).0 (0, some, get_or_default listed 0 (slice_index listed 0) 0 some) in
        let h = more (slice_index listed 0) there.0 in
        absurd (omega (arith, h, there.1))
    | inr g ↦ omega (arith, g)
  ]

  pub nothing_shown : ((i : ℕ) → i < input.goods → prices i ≤ LARGEST) → (lower : Bound) → IsLowerCostBound input y y0 prices lower → ShowsNothing input.goods lower
  nothing_shown small (Shown value pair) given =
      let p = least_cost_program input prices given.listed in
      let none : p.cols ≡ 0 = none_listed given.listed given.lists in
      let ends : EndsOptimal p pair = given.is_bound.run in
      let den : pair.den ≡ 1 = ends.den ∙ (at_first p none ends.reached).over_one in
      let zeros = no_prices p none pair ends in
      let lowest = zero_in_lowest (spending input.goods prices (slice_index pair.x)) pair.den value (no_cost input.goods prices (slice_index pair.x) zeros) den given.is_bound.value.1 in
      record {
        no_cost = lowest.0;
        over_one = lowest.1;
        den = den;
        no_entry = no_entries p none pair.y ends.y_listed;
        each = ends.x_length;
        no_input = zeros;
      }
  nothing_shown small (Wide step) given =
      let p = least_cost_program input prices given.listed in
      let none : p.cols ≡ 0 = none_listed given.listed given.lists in
      given.is_bound.run.passes (fits_first p none given.is_bound.run.last (at_first p none given.is_bound.run.reached) (λ i l. let h = small i l in omega (arith, h)))
