-- For which files a desk is asked, by name: for one after another, each once (this project's own order).
use Rattle.std.specs.Prelude.{◌≡◌, ◌⊎◌, ℕ, suc, List, [], ◌∷◌, ◌++◌, Option, Some, length}
use Rattle.std.specs.Option.{ForSome}
use Rattle.rp_outside.specs.Asked.{IsReadOnce, Reads}
use Rattle.rp_front.specs.Contents.{AreRefused, Files}
use Rattle.rp_front.specs.Meaning.{Meaning}

-- reads of the first files, of no more than n of them: of each once, and all of them before those of the next
abbrev pub AreOfFirst : ℕ → List (List ℕ) → Reads → Type 0
AreOfFirst (suc n) (file ∷ files) reads = (reads ≡ [])
    ⊎ ((own : Reads) × (rest : Reads) × (reads ≡ own ++ rest) × IsReadOnce file own × AreOfFirst n files rest)
AreOfFirst _ _ reads = reads ≡ []

-- known reads grow by reads of the first files, of no more than n of them
abbrev pub GrowsByFirst : Option Reads → Option Reads → List (List ℕ) → ℕ → Type 0
GrowsByFirst before after files n =
    ForSome before (λ reads. (more : Reads) × (after ≡ Some (reads ++ more)) × AreOfFirst n files more)

-- each file is read once at most, in their order, and none after one that is refused
pub record AreAskedInTurn (m : Meaning) (files : Files) (before after : Option Reads) (a : m.Asked) : Type 0 where
  pub each_once : GrowsByFirst before after (m.files_of a) (length (m.files_of a))
  pub none_after_refused : (n : ℕ) → AreRefused m files a n → GrowsByFirst before after (m.files_of a) n
