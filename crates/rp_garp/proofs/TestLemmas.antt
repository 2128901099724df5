-- What the test of a table without levels shows of it: its weak steps and its verdict are those at the level 1.
use Rattle.std.proofs.Common.{◌≡◌, ℕ, List, [], subst, ◌∙◌}
use Rattle.rp_evidence.specs.Garp.{IsViolationAt, MeetsGarp, ProvesGarp}
use Rattle.rp_evidence.specs.Input.{input_of_table}
use Rattle.rp_evidence.specs.Preference.{IsWeak, WeakByLevels}
use Rattle.rp_evidence.specs.declared.garp.Garp.{Garp}
use Rattle.rp_evidence.specs.declared.garp.Garp.TheVariants.{Cycle, Ranks}
use Rattle.rp_evidence.proofs.OwnLevels.{weak_without_levels}
use Rattle.rp_evidence.proofs.SameCosts.{garp_same, reach_same}
use Rattle.rp_pref.specs.Closure.{IsClosureOf, IsWeakClosureOf, Reached}
use Rattle.rp_pref.proofs.WeakClosures.{closure_of_table}
use Rattle.rp_table.specs.Cost.{cost_at, cost_of}
use Rattle.rp_table.specs.Tables.{Observations, records_of}
use Rattle.rp_garp.specs.Test.{IsTestOf}
use Rattle.rp_garp.specs.GarpVerdict.{IsGarpVerdict, IsOwnGarpVerdict}
use Rattle.rp_garp.specs.declared.garp_test.GarpTest.{GarpTest}
use Rattle.rp_garp.proofs.SameVerdicts.{garp_verdict_same, given_at_one, proves_at_one}

-- without levels, the closure by the observations' own levels is that where all that was spent counts
closure_at_one : (n : ℕ) (levels : List ℕ) (c : ℕ → ℕ → ℕ) → levels ≡ [] → (reached : Reached) → IsClosureOf reached n (WeakByLevels levels c) → IsClosureOf reached n (IsWeak c)
closure_at_one n levels c none reached closes =
    let own : IsClosureOf reached n (WeakByLevels [] c) = subst (λ (l : List ℕ). IsClosureOf reached n (WeakByLevels l c)) none closes in
    record {
      size = own.size;
      exact = λ s t s_in t_in.
          let is = own.exact s t s_in t_in in
          let same = reach_same n (WeakByLevels [] c) (IsWeak c) (λ a b a_in b_in. weak_without_levels c a b) s t in
          (λ told. same.0 (is.0 told), λ reaches. is.1 (same.1 reaches));
    }

module _ (table : Observations) (none : table.levels ≡ []) (tested : GarpTest) (is : IsTestOf table tested) where
  no_levels : tested.costs.levels ≡ []
  no_levels = is.of_table.levels ∙ none

  pub closes_in_table : IsWeakClosureOf tested.closure (input_of_table table)
  closes_in_table =
      closure_of_table table tested.costs is.of_table tested.closure
      (closure_at_one tested.costs.n tested.costs.levels (cost_at tested.costs) no_levels tested.closure is.is_test.closes)

  pub judged_in_table : ProvesGarp (records_of table) (cost_of table) tested.garp
  judged_in_table =
      let at_one = proves_at_one tested.costs.n tested.costs.levels (cost_at tested.costs) no_levels tested.garp is.is_test.proves in
      garp_same (records_of table) (cost_at tested.costs) (cost_of table) tested.garp is.of_table.each
      (subst (λ (n : ℕ). ProvesGarp n (cost_at tested.costs) tested.garp) is.of_table.size at_one)

  pub meets_by_ranks : (ranks : List ℕ) → tested.garp ≡ Ranks ranks → MeetsGarp (records_of table) (cost_of table)
  meets_by_ranks ranks same = (subst (λ (v : Garp). ProvesGarp (records_of table) (cost_of table) v) same judged_in_table).1

  pub violates_by_cycle : (walk : List ℕ) → tested.garp ≡ Cycle walk → IsViolationAt (records_of table) (cost_of table) 1 1 walk
  violates_by_cycle walk same = subst (λ (v : Garp). ProvesGarp (records_of table) (cost_of table) v) same judged_in_table

  pub given_in_table : IsOwnGarpVerdict tested.costs.n tested.costs.levels (cost_at tested.costs) tested.garp → IsGarpVerdict (records_of table) (cost_of table) tested.garp
  given_in_table given =
      let at_one = given_at_one tested.costs.n tested.costs.levels (cost_at tested.costs) no_levels tested.garp given in
      garp_verdict_same (records_of table) (cost_at tested.costs) (cost_of table) is.of_table.each tested.garp
      (subst (λ (n : ℕ). IsGarpVerdict n (cost_at tested.costs) tested.garp) is.of_table.size at_one)
