-- What the items behind a text say of people, and what a pair does.
use Rattle.std.proofs.Common.{ℕ, List, [], ◌∷◌, Option, Some, None, All}
use Rattle.std.proofs.lemmas.List.Elements.{All-cons, All-nil}
use Rattle.rp_table.specs.Cost.{cost_of}
use Rattle.rp_table.specs.Tables.{IsTable, Observations, records_of}
use Rattle.rp_evidence.specs.Input.{input_of_table}
use Rattle.rp_evidence.specs.Proves.{Proves}
use Rattle.rp_evidence.specs.declared.certificate.Item.{Item}
use Rattle.rp_people.specs.Says.{Says}
use Rattle.rp_people.proofs.FullTables.{table_is_full}
use Rattle.rp_people.proofs.SaysOfItems.{says}
use Rattle.rp_people.proofs.TableLaws.{pair_contradicts}
use Rattle.rp_garp.specs.Pairs.{IsOwnPairs}
use Rattle.rp_answers.specs.PairsText.{SaysOfPair}

module _ (table : Observations) (valid : IsTable table) where
  pub none_says : All (Says (input_of_table table)) []
  none_says = All-nil (Says (input_of_table table))

  pub says_too : (item : Item) (items : List Item) → Proves (input_of_table table) item → All (Says (input_of_table table)) items → All (Says (input_of_table table)) (item ∷ items)
  says_too item items proves =
      All-cons (Says (input_of_table table)) item items (says (input_of_table table) (table_is_full table valid) item proves)

  pub pair_says : (found : Option (ℕ × ℕ)) → IsOwnPairs (records_of table) table.levels (cost_of table) found → SaysOfPair table found
  pair_says None is = tt
  pair_says (Some p) is = pair_contradicts (input_of_table table) (table_is_full table valid) p.0 p.1 is.first is.second is.related.0 is.related.1
