-- What is found for one item beside the verdict on the axiom. No public clause rests on these words.
use Rattle.std.specs.Prelude.{◌<◌, ◌^◌, All, Bool, Ok}
use Rattle.rp_check.specs.ItemFailure.{ItemFails}
use Rattle.rp_evidence.specs.Input.{TableInput}
use Rattle.rp_evidence.specs.Proves.{Proves}
use Rattle.rp_evidence.specs.declared.certificate.Item.{Item}
use Rattle.rp_evidence.specs.declared.garp.Garp.{Garp}
use Rattle.rp_evidence.specs.declared.garp.Garp.TheVariants.{Cycle, Ranks}
use Rattle.rp_filled.specs.Filled.{IsFilledItem}
use Rattle.rp_people.specs.Says.{Says}

-- an item from the stated one: it proves its verdict, says of people what such a verdict says, and nothing is found
-- wrong with it
pub record IsFoundBeside (input : TableInput) (stated found : Item) : Type 0 where
  pub from_stated : IsFilledItem stated found
  pub proves : Proves input found
  pub says : Says input found
  pub passes : (garp_shown : Bool) × ItemFails input garp_shown found (Ok tt)

-- ranks of 32 bits; a violation has none
abbrev pub HasSmallRanks : Garp → Type 0
HasSmallRanks (Ranks ranks) = All (λ rank. rank < 2 ^ 32) ranks
HasSmallRanks (Cycle walk) = Unit {0}
