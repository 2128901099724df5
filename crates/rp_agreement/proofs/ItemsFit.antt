-- Certificates of items as they are given can be read back.
use Rattle.std.proofs.Common.{◌≢◌, ◌+◌, ◌*◌, ℕ, List, [], ◌∷◌, length, All, ap, arith, inl, inr, refl}
use Rattle.std.proofs.lemmas.Nat.{mul-add-lt}
use Rattle.rp_agreement.specs.ItemVerdict.{ProvesVerdict}
use Rattle.rp_evidence.specs.Certificates.{random_certificate, version_of}
use Rattle.rp_evidence.specs.Input.{TableInput, input_of_table}
use Rattle.rp_evidence.specs.Preference.{StrictByLevels, WeakByLevels}
use Rattle.rp_evidence.specs.declared.afriat.AfriatPart.{AfriatPart}
use Rattle.rp_evidence.specs.declared.certificate.Item.{Item}
use Rattle.rp_evidence.specs.declared.certificate.Item.TheVariants.{Garp as GarpItem, Afriat as AfriatItem, Efficiency as EfficiencyItem, Homothetic as HomotheticItem, Quasi as QuasiItem, Demand as DemandItem, Welfare as WelfareItem, Random as RandomItem}
use Rattle.rp_evidence.specs.declared.certificate.Kind.TheVariants.{Table, Random as RandomKind}
use Rattle.rp_evidence.specs.declared.efficiency.Efficiency.{Efficiency}
use Rattle.rp_evidence.specs.declared.garp.Garp.{Garp}
use Rattle.rp_evidence.specs.declared.homothetic.Homothetic.{Homothetic}
use Rattle.rp_evidence.specs.declared.quasilinear.Quasi.{Quasi}
use Rattle.rp_evidence.specs.declared.random.RandomPart.{RandomPart}
use Rattle.rp_json.specs.Denoted.{FitLevels, FitsKind, IsReadable}
use Rattle.rp_json_entries.proofs.ListLemmas.{all_more, all_none}
use Rattle.rp_patch.specs.Patches.{IsPatchList, PatchList}
use Rattle.rp_patch.specs.RandomEvidence.{ProvesRandom}
use Rattle.rp_random.specs.RandomVerdict.{IsRandomVerdict}
use Rattle.rp_table.specs.OwnLevels.{AreOwnLevels}
use Rattle.rp_table.specs.Tables.{IsTable, Observations, goods_of, records_of}
use Rattle.rp_agreement.specs.Limited.{IsLimited}
use Rattle.rp_agreement.specs.ReadBack.{certificate_from}
use Rattle.rp_agreement.proofs.BoundsFit.{demand_fits, welfare_fits}
use Rattle.rp_agreement.proofs.RandomFits.{random_fits}
use Rattle.rp_agreement.proofs.TestsFit.{afriat_fits, efficiency_fits, garp_fits, homothetic_fits, quasilinear_fits}

-- a table is within the limits
pub table_limited : (table : Observations) → IsTable table → IsLimited (input_of_table table)
table_limited table valid = record {
  few_observations = valid.few_records;
  few_goods = valid.few_goods;
  quantities = λ s g s_in g_in.
      valid.quantity_limits (s * goods_of table + g) 0 (omega (arith, mul-add-lt s (goods_of table) g (records_of table) s_in g_in, valid.all_quantities));
  own_levels = valid.own_levels;
}

-- levels are those of their version
some_levels : (level : ℕ) (levels : List ℕ) → (level ∷ levels) ≢ []
some_levels level levels none = absurd (omega (arith, ap length none))

levels_fit : (n : ℕ) (levels : List ℕ) → AreOwnLevels n levels → FitLevels Table (version_of levels) levels
levels_fit n [] own = inl (refl, refl)
levels_fit n (level ∷ levels) (inl none) = absurd (some_levels level levels none)
levels_fit n (level ∷ levels) (inr (one_each, all)) = inr (refl, refl, (some_levels level levels, all))

module _ (input : TableInput) (limited : IsLimited input) (verdict : Garp) where
  pub item_fits : (item : Item) → ProvesVerdict input verdict item → FitsKind Table item
  item_fits (GarpItem own) (proves, given) = (tt, garp_fits input.n limited.few_observations (WeakByLevels input.levels input.cost) (StrictByLevels input.levels input.cost) own proves given)
  item_fits (AfriatItem part) (proves, given) = (tt, afriat_fits input.n limited.few_observations input.levels input.cost part proves given)
  item_fits (EfficiencyItem evidence) (proves, given) = (tt, efficiency_fits input.n input.cost limited.few_observations evidence proves given)
  item_fits (HomotheticItem own) (proves, given) = (tt, homothetic_fits input.n input.cost limited.few_observations own proves given)
  item_fits (QuasiItem own) (proves, given) = (tt, quasilinear_fits input.n input.cost limited.few_observations own proves given)
  item_fits (DemandItem prices m part) (proves, (none, new, spends, given)) = (tt, demand_fits input limited prices new m spends verdict part proves given)
  item_fits (WelfareItem prices t part) (proves, (none, new, t_in, given)) = (tt, welfare_fits input limited prices new t t_in verdict part proves given)
  item_fits (RandomItem total part) (proves, given) = absurd given

  pub certificate_readable : (rest : List Item) → ProvesVerdict input verdict (GarpItem verdict) → All (ProvesVerdict input verdict) rest → IsReadable Table (certificate_from input.levels verdict rest)
  certificate_readable rest first all = record {
    of_kind = refl;
    levels = levels_fit input.n input.levels limited.own_levels;
    items = all_more (FitsKind Table) (GarpItem verdict) rest (item_fits (GarpItem verdict) first) (λ k d within. item_fits _ (all k d within));
  }

  -- the same of the tests of a table
  pub analysis_readable : (afriat : AfriatPart) (efficiency : Efficiency) (homothetic : Homothetic) (quasilinear : Quasi) → ProvesVerdict input verdict (GarpItem verdict)
      → ProvesVerdict input verdict (AfriatItem afriat) → ProvesVerdict input verdict (EfficiencyItem efficiency)
      → ProvesVerdict input verdict (HomotheticItem homothetic) → ProvesVerdict input verdict (QuasiItem quasilinear)
      → IsReadable Table (certificate_from input.levels verdict (AfriatItem afriat ∷ EfficiencyItem efficiency ∷ HomotheticItem homothetic ∷ QuasiItem quasilinear ∷ []))
  analysis_readable afriat efficiency homothetic quasilinear first a e h q =
      let P : Item → Type 0 = ProvesVerdict input verdict in
      let last : List Item = QuasiItem quasilinear ∷ [] in
      let last_two : List Item = HomotheticItem homothetic ∷ last in
      let last_three : List Item = EfficiencyItem efficiency ∷ last_two in
      let fourth : All P last = all_more P (QuasiItem quasilinear) [] q (all_none P) in
      let third : All P last_two = all_more P (HomotheticItem homothetic) last h fourth in
      let second : All P last_three = all_more P (EfficiencyItem efficiency) last_two e third in
      certificate_readable (AfriatItem afriat ∷ last_three) first (all_more P (AfriatItem afriat) last_three a second)

-- ---- random choices

pub random_readable : (p : PatchList) (types : List (List ℕ)) (part : RandomPart) → IsPatchList p → ProvesRandom p p.total part → IsRandomVerdict p types part
    → IsReadable RandomKind (random_certificate p.total part)
random_readable p types part valid proves given = record {
  of_kind = refl;
  levels = inl (refl, refl);
  items = all_more (FitsKind RandomKind) (RandomItem p.total part) [] (tt, random_fits p types valid part proves given) (all_none (FitsKind RandomKind));
}
