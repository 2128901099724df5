-- A certificate of a table without levels that begins with the verdict of its test.
use Rattle.std.proofs.Common.{◌≡◌, ℕ, List, [], ap, sym, subst, ◌∙◌}
use Rattle.rp_evidence.specs.Input.{input_of_table}
use Rattle.rp_evidence.specs.Proves.{Proves}
use Rattle.rp_evidence.specs.declared.certificate.Certificate.{Certificate}
use Rattle.rp_evidence.specs.declared.certificate.Item.{Item}
use Rattle.rp_evidence.specs.declared.certificate.Item.TheVariants.{Garp as GarpItem}
use Rattle.rp_evidence.specs.declared.certificate.Kind.TheVariants.{Table}
use Rattle.rp_evidence.specs.declared.garp.Garp.{Garp}
use Rattle.rp_garp.specs.Test.{IsTestOf}
use Rattle.rp_garp.specs.GarpVerdict.{IsOwnGarpVerdict}
use Rattle.rp_garp.specs.declared.garp_test.GarpTest.{GarpTest}
use Rattle.rp_garp.proofs.TestLemmas.{given_in_table, judged_in_table}
use Rattle.rp_json.specs.Denoted.{FitsKind}
use Rattle.rp_people.proofs.FullTables.{table_is_full}
use Rattle.rp_people.proofs.SaysOfItems.{says}
use Rattle.rp_table.specs.Cost.{cost_at}
use Rattle.rp_table.specs.Tables.{Observations}
use Rattle.rp_agreement.specs.ReadBack.{IsReadBack, certificate_from}
use Rattle.rp_answers.specs.Accepted.{IsAcceptedOn, PassesAfter}
use Rattle.rp_answers.specs.GarpFirst.{AreAnswered, IsGarpFirst}
use Rattle.rp_answers.proofs.AcceptedLemmas.{garp_first_accepted}
use Rattle.rp_answers.proofs.GarpFirstLemmas.{garp_there}
use Rattle.rp_answers.proofs.ReadBackLemmas.{garp_first_read_back}

module _ (table : Observations) (none : table.levels ≡ []) (tested : GarpTest) (is : IsTestOf table tested)
    (own : IsOwnGarpVerdict tested.costs.n tested.costs.levels (cost_at tested.costs) tested.garp) where
  -- the verdict, and then items that answer under it
  pub judged_first : (count : ℕ) (IsAnswer : Garp → ℕ → Item → Type 0) (items : List Item) (certificate : Certificate) → certificate ≡ certificate_from table.levels tested.garp items
      → AreAnswered count (IsAnswer tested.garp) items → ((k : ℕ) (item : Item) → IsAnswer tested.garp k item → PassesAfter (input_of_table table) tested.garp item)
      → ((k : ℕ) (item : Item) → IsAnswer tested.garp k item → FitsKind Table item) → IsGarpFirst (input_of_table table) count IsAnswer certificate
  judged_first count IsAnswer items certificate made answered passes readable =
      let input = input_of_table table in
      let garp = tested.garp in
      let first : certificate ≡ certificate_from [] garp items = made ∙ ap (λ (l : List ℕ). certificate_from l garp items) none in
      let at_one = judged_in_table table none tested is in
      let given = given_in_table table none tested is own in
      let proves : Proves input (GarpItem garp) = garp_there tested.costs table is.of_table garp is.is_test.proves in
      record {
        garp = garp;
        others = items;
        items = first;
        garp_proves = proves;
        garp_says = says input (table_is_full table is.valid) (GarpItem garp) proves;
        garp_given = given;
        answered = answered;
        accepted = subst (IsAcceptedOn input) (sym first) (garp_first_accepted input none garp proves count (IsAnswer garp) items answered passes);
        read_back = subst (IsReadBack Table) (sym first) (garp_first_read_back table is.valid garp at_one given count (IsAnswer garp) items answered readable);
      }
