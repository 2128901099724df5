use Rattle.rp_commands.proofs.DenotedAlike.{denotes_alike}
use Rattle.rp_commands.proofs.laws.listed_choices_are_denoted_alike.Goals as goal

pub returns : goal.returns
returns c = denotes_alike
