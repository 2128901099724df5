-- What evidence proves and says is what the verdict for which it is tells.
use Rattle.std.proofs.Common.{◌≡◌, ◌⊎◌, ℕ, List, [], false, None, inl, inr, subst, refl}
use Rattle.rp_evidence.specs.Garp.{ProvesOwnGarp}
use Rattle.rp_evidence.specs.Input.{input_of_table}
use Rattle.rp_evidence.specs.Preference.{AgreeBelow}
use Rattle.rp_evidence.specs.Proves.{Proves}
use Rattle.rp_evidence.specs.declared.certificate.Item.TheVariants.{Garp as GarpItem, Efficiency as EfficiencyItem}
use Rattle.rp_evidence.specs.declared.certificate.Item.TheVariants.{Homothetic as HomotheticItem, Quasi as QuasiItem}
use Rattle.rp_evidence.specs.declared.efficiency.Efficiency.{Efficiency}
use Rattle.rp_evidence.specs.declared.garp.Garp.{Garp}
use Rattle.rp_evidence.specs.declared.garp.Garp.TheVariants.{Cycle, Ranks}
use Rattle.rp_evidence.specs.declared.homothetic.Homothetic.{Homothetic}
use Rattle.rp_evidence.specs.declared.homothetic.Homothetic.TheVariants as homothetic
use Rattle.rp_evidence.specs.declared.quasilinear.Quasi.{Quasi}
use Rattle.rp_evidence.specs.declared.quasilinear.Quasi.TheVariants as quasi
use Rattle.rp_evidence.proofs.OwnLevels.{own_garp_same}
use Rattle.rp_people.specs.Says.{Says}
use Rattle.rp_people.proofs.FullTables.{table_is_full}
use Rattle.rp_people.proofs.SaysOfItems.{says}
use Rattle.rp_num.specs.Fraction.{IsCoprime}
use Rattle.rp_table.specs.Cost.{CostTable, IsCostsOf, cost_at, cost_of}
use Rattle.rp_table.specs.Tables.{IsTable, Observations}
use Rattle.rp_rows.specs.Asked.{MayBeAsked}
use Rattle.rp_rows.specs.declared.asked.Asked.{Asked}
use Rattle.rp_rows.specs.Verdicts.{IsAxiomVerdict, IsHomotheticFound, IsIndex, IsQuasilinearFound}
use Rattle.rp_rows.specs.Words.{garp_verdict, homothetic_verdict, is_attained, quasilinear_verdict}

-- costs of a table are its own between the observations
pub same_costs : (costs : CostTable) (table : Observations) → IsCostsOf costs table → AgreeBelow costs.n (cost_at costs) (cost_of table)
same_costs costs table is s t s_in t_in = is.each s t (rw is.size at s_in) (rw is.size at t_in)

-- a verdict on the axiom at the costs of a table is one of the table
pub garp_there : (costs : CostTable) (table : Observations) → IsCostsOf costs table → (verdict : Garp) → ProvesOwnGarp costs.n costs.levels (cost_at costs) verdict → Proves (input_of_table table) (GarpItem verdict)
garp_there costs table is verdict proves =
    let there = own_garp_same costs.n costs.levels (cost_at costs) (cost_of table) (same_costs costs table is) verdict proves in
    subst (λ (n : ℕ). ProvesOwnGarp n table.levels (cost_of table) verdict) is.size
    (subst (λ (levels : List ℕ). ProvesOwnGarp costs.n levels (cost_of table) verdict) is.levels there)

-- the pump and the power may be asked where all that is asked may be
pub may_have_pump : (asked : Asked) (table : Observations) → MayBeAsked asked table → (asked.pump ≡ false) ⊎ (table.levels ≡ [])
may_have_pump asked table (inl no_more) = inl no_more.no_pump
may_have_pump asked table (inr no_levels) = inr no_levels

pub may_have_power : (asked : Asked) (table : Observations) → MayBeAsked asked table → (asked.power ≡ None) ⊎ (table.levels ≡ [])
may_have_power asked table (inl no_more) = inl no_more.no_power
may_have_power asked table (inr no_levels) = inr no_levels

module _ (table : Observations) (valid : IsTable table) where
  garp_tells : (evidence : Garp) → Proves (input_of_table table) (GarpItem evidence) → Says (input_of_table table) (GarpItem evidence) → IsAxiomVerdict table (garp_verdict evidence)
  garp_tells (Ranks ranks) proves said = record { of_table = proves.1; of_people = said }
  garp_tells (Cycle walk) proves said = record { of_table = (walk, proves); of_people = said }

  pub garp_told : (evidence : Garp) → Proves (input_of_table table) (GarpItem evidence) → IsAxiomVerdict table (garp_verdict evidence)
  garp_told evidence proves = garp_tells evidence proves (says (input_of_table table) (table_is_full table valid) (GarpItem evidence) proves)

  index_tells : (evidence : Efficiency) (at : Garp) → evidence.at ≡ at → IsCoprime evidence.level.num evidence.level.den → Proves (input_of_table table) (EfficiencyItem evidence) → Says (input_of_table table) (EfficiencyItem evidence) → IsIndex table evidence.level.num evidence.level.den (is_attained at)
  index_tells evidence (Ranks ranks) is coprime proves said =
      let at = rw is at proves.at in
      let of = rw is at said.1 in
      record { index = proves.index; coprime = coprime; divides = said.0; at_index = at.1; of_people = of }
  index_tells evidence (Cycle walk) is coprime proves said =
      let at = rw is at proves.at in
      let of = rw is at said.1 in
      record { index = proves.index; coprime = coprime; divides = said.0; at_index = (walk, at); of_people = of }

  pub index_told : (evidence : Efficiency) → IsCoprime evidence.level.num evidence.level.den → Proves (input_of_table table) (EfficiencyItem evidence) → IsIndex table evidence.level.num evidence.level.den (is_attained evidence.at)
  index_told evidence coprime proves =
      index_tells evidence evidence.at refl coprime proves (says (input_of_table table) (table_is_full table valid) (EfficiencyItem evidence) proves)

  module _ (given : Observations → Homothetic → Type 0) where
    homothetic_tells : (evidence : Homothetic) → given table evidence → Proves (input_of_table table) (HomotheticItem evidence) → Says (input_of_table table) (HomotheticItem evidence) → IsHomotheticFound given table (homothetic_verdict evidence)
    homothetic_tells (homothetic.Values values) is proves said = record { evidence = homothetic.Values values; is_given = is; verdict_is = refl; of_table = proves.1; of_people = said }
    homothetic_tells (homothetic.Cycle start walk) is proves said = record { evidence = homothetic.Cycle start walk; is_given = is; verdict_is = refl; of_table = (walk, proves); of_people = said }
    homothetic_tells (homothetic.Withheld steps from to) is proves said = record { evidence = homothetic.Withheld steps from to; is_given = is; verdict_is = refl; of_table = tt; of_people = tt }

    pub homothetic_told : (evidence : Homothetic) → given table evidence → Proves (input_of_table table) (HomotheticItem evidence) → IsHomotheticFound given table (homothetic_verdict evidence)
    homothetic_told evidence is proves = homothetic_tells evidence is proves (says (input_of_table table) (table_is_full table valid) (HomotheticItem evidence) proves)

  quasilinear_tells : (evidence : Quasi) → Proves (input_of_table table) (QuasiItem evidence) → Says (input_of_table table) (QuasiItem evidence) → IsQuasilinearFound table (quasilinear_verdict evidence)
  quasilinear_tells (quasi.Values values) proves said = record { of_table = proves.1; of_people = said }
  quasilinear_tells (quasi.Cycle walk) proves said = record { of_table = (walk, proves); of_people = said }

  pub quasilinear_told : (evidence : Quasi) → Proves (input_of_table table) (QuasiItem evidence) → IsQuasilinearFound table (quasilinear_verdict evidence)
  quasilinear_told evidence proves = quasilinear_tells evidence proves (says (input_of_table table) (table_is_full table valid) (QuasiItem evidence) proves)
