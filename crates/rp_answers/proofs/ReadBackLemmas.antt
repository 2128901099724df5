-- The JSON of the certificates of the program is read back as they are.
use Rattle.std.proofs.Common.{ℕ, List, [], slice_index_or, arith, inl, refl}
use Rattle.rp_evidence.specs.Garp.{ProvesGarp}
use Rattle.rp_evidence.specs.Preference.{IsStrict, IsWeak}
use Rattle.rp_evidence.specs.declared.certificate.Item.{Item}
use Rattle.rp_evidence.specs.declared.certificate.Item.TheVariants.{Garp as GarpItem}
use Rattle.rp_evidence.specs.declared.certificate.Kind.TheVariants.{Table}
use Rattle.rp_evidence.specs.declared.garp.Garp.{Garp}
use Rattle.rp_garp.specs.GarpVerdict.{IsGarpVerdict}
use Rattle.rp_json.specs.Denoted.{FitsKind}
use Rattle.rp_json_entries.proofs.ListLemmas.{all_more}
use Rattle.rp_table.specs.Tables.{IsTable, Observations, records_of}
use Rattle.rp_table.specs.Cost.{cost_of}
use Rattle.rp_agreement.specs.ReadBack.{IsReadBack, certificate_from}
use Rattle.rp_agreement.proofs.SameValues.{text_read_back}
use Rattle.rp_agreement.proofs.TestsFit.{garp_fits}
use Rattle.rp_answers.specs.GarpFirst.{AreAnswered}

module _ (table : Observations) (valid : IsTable table) (garp : Garp) (proves : ProvesGarp (records_of table) (cost_of table) garp) (given : IsGarpVerdict (records_of table) (cost_of table) garp) where
  -- the verdict on the axiom, and then items that can be read back
  pub garp_first_read_back : (count : ℕ) (P : ℕ → Item → Type 0) (others : List Item) → AreAnswered count P others → ((k : ℕ) (item : Item) → P k item → FitsKind Table item)
      → IsReadBack Table (certificate_from [] garp others)
  garp_first_read_back count P others answered fit =
      text_read_back Table (certificate_from [] garp others) (record {
        of_kind = refl;
        levels = inl (refl, refl);
        items = all_more (FitsKind Table) (GarpItem garp) others (tt, garp_fits (records_of table) valid.few_records (IsWeak (cost_of table)) (IsStrict (cost_of table)) garp proves given)
            (λ k d k_in. fit k (slice_index_or others k d) (answered.each k d (omega (arith, k_in, answered.one_each))));
      })
