use Rattle.rp_patch.proofs.ChosenLaws.{chosen_total}
use Rattle.rp_patch.proofs.FirstChosen.{numbered, times_together}
use Rattle.rp_patch.proofs.laws.patches_are_numbered_by_first_choice.Goals as goal

pub returns : goal.returns
returns c = record {
  numbered = λ input asked p are. numbered input asked p are;
  times = λ input asked p are i within. times_together input asked p are i within;
  together = λ input j below. chosen_total input j below;
}
