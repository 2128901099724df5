-- The closure of the weak steps of costs is that of the table that they are of.
use Rattle.std.proofs.Common.{subst}
use Rattle.rp_table.specs.Cost.{CostTable, IsCostsOf, cost_at, cost_of}
use Rattle.rp_table.specs.Tables.{Observations, records_of}
use Rattle.rp_evidence.specs.Input.{input_of_table}
use Rattle.rp_evidence.specs.Preference.{IsWeak}
use Rattle.rp_evidence.proofs.SameCosts.{reach_same, weak_same}
use Rattle.rp_pref.specs.Closure.{IsClosureOf, IsWeakClosureOf, Reached}

pub closure_of_table : (table : Observations) (costs : CostTable) → IsCostsOf costs table → (reached : Reached)
    → IsClosureOf reached costs.n (IsWeak (cost_at costs)) → IsWeakClosureOf reached (input_of_table table)
closure_of_table table costs of reached closed =
    let k = subst (λ n. IsClosureOf reached n (IsWeak (cost_at costs))) of.size closed in
    let same = reach_same (records_of table) (IsWeak (cost_at costs)) (IsWeak (cost_of table)) (weak_same (records_of table) (cost_at costs) (cost_of table) 1 1 of.each) in
    record {
      size = k.size;
      exact = λ s t a b. ((λ h. (same s t).0 ((k.exact s t a b).0 h)), (λ r. (k.exact s t a b).1 ((same s t).1 r)));
    }
