-- For which files a desk was asked, by name: for one after another as the words name them, each once (this program's
-- own order).
use Rattle.std.specs.Prelude.{◌≡◌, ◌⊎◌, ℕ, suc, List, [], ◌∷◌, ◌++◌, Option, Some, length}
use Rattle.std.specs.Option.{ForSome}
use Rattle.rp_outside.specs.Asked.{IsReadOnce, Reads}
use Rattle.rp_command_line.specs.CommandLine.{Line, files_of}
use Rattle.rp_commands.specs.Answers.{Files}
use Rattle.rp_commands.specs.Turns.{AreRefused}

-- reads of the first files, of no more than n of them: of each once, and all of them before those of the next
abbrev pub AreOfFirst : ℕ → List (List ℕ) → Reads → Type 0
AreOfFirst (suc n) (file ∷ files) reads = (reads ≡ [])
    ⊎ ((own : Reads) × (rest : Reads) × (reads ≡ own ++ rest) × IsReadOnce file own × AreOfFirst n files rest)
AreOfFirst _ _ reads = reads ≡ []

-- known reads grow by reads of the first files, of no more than n of them
abbrev pub GrowsByFirst : Option Reads → Option Reads → List (List ℕ) → ℕ → Type 0
GrowsByFirst before after files n =
    ForSome before (λ reads. (more : Reads) × (after ≡ Some (reads ++ more)) × AreOfFirst n files more)

-- each file of a line is read once at most, in the order of the words, and none after one that is refused
pub record AreAskedInTurn (files : Files) (before after : Option Reads) (line : Line) : Type 0 where
  pub each_once : GrowsByFirst before after (files_of line) (length (files_of line))
  pub none_after_refused : (n : ℕ) → AreRefused files line n → GrowsByFirst before after (files_of line) n
