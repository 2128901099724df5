-- What is given for random choices: by the run of the program of random utility (McFadden and Richter 1990; this
-- program's own run).
use Rattle.std.specs.Prelude.{ℕ, List}
use Rattle.rp_find_mixture.specs.MixtureVerdict.{IsRunVerdict}
use Rattle.rp_evidence.specs.declared.random.RandomPart.{RandomPart}
use Rattle.rp_patch.specs.Mixtures.{types_on}
use Rattle.rp_patch.specs.Patches.{PatchList}

-- The verdict is made from the outcome of the run of the program of random utility over these types.
abbrev pub IsRandomVerdict : PatchList → List (List ℕ) → RandomPart → Type 0
IsRandomVerdict p types = IsRunVerdict (types_on p) types
