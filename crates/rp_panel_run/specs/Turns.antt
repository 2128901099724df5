-- For which files a desk is asked, and how often: for the long one first, for that of new prices where bounds are asked
-- and the long one is not known to be refused, for each once, and for no other (this program's own order).
use Rattle.std.specs.Prelude.{◌≡◌, ◌≤◌, ◌⊎◌, ℕ, ◌+◌, List, [], ◌∷◌, ◌++◌, Option, None, Some}
use Rattle.std.specs.Option.{ForSome}
use Rattle.rp_bound_rows.specs.declared.asked.BoundsAsked.{BoundsAsked}
use Rattle.rp_limits.specs.declared.long.TheConstants.{BYTES}
use Rattle.rp_limits.specs.declared.run.TheConstants.{MOST_BYTES}
use Rattle.rp_outside.specs.Asked.{IsReadOnce, KeepsReads, Reads}
use Rattle.rp_outside.specs.Reads.{calls_through}
use Rattle.rp_panel_run.specs.Endings.{Files, IsLongRefusal}
use Rattle.rp_panel_run.specs.Questions.{Asking, files_of}

-- the most calls to read the long file through, and the file of new prices, where bounds are asked
abbrev pub calls_of_long : Asking → Files → ℕ
calls_of_long a files = calls_through BYTES (files a.file)

abbrev pub calls_of_new : Option BoundsAsked → Option (List ℕ) → ℕ
calls_of_new None known = 0
calls_of_new (Some asked) known = calls_through MOST_BYTES known

-- the long file is known, and refused
abbrev pub IsKnownRefused : Asking → Files → Type 0
IsKnownRefused a files =
    (bytes : List ℕ) × (files a.file ≡ Some bytes) × ((line : List ℕ) × IsLongRefusal a bytes line)

-- from the count of calls before to that after, each file is read through at most once, and none after one that is
-- refused
pub record AreReadInTurn (files : Files) (before after : ℕ) (a : Asking) : Type 0 where
  pub each_once : after ≤ before + calls_of_long a files + calls_of_new a.bounds (files a.new_prices)
  pub none_after_refused : IsKnownRefused a files → after ≤ before + calls_of_long a files

-- reads of these files: of each once, all of them before those of the next, and none of the others that come later
abbrev pub AreInOrder : List (List ℕ) → Reads → Type 0
AreInOrder [] reads = reads ≡ []
AreInOrder (file ∷ files) reads = (reads ≡ [])
    ⊎ ((own : Reads) × (rest : Reads) × (reads ≡ own ++ rest) × IsReadOnce file own × AreInOrder files rest)

-- known reads grow by such reads
abbrev pub GrowsInOrder : Option Reads → Option Reads → List (List ℕ) → Type 0
GrowsInOrder before after files =
    ForSome before (λ reads. (more : Reads) × (after ≡ Some (reads ++ more)) × AreInOrder files more)

-- each file is read at most once, in the order of the words, and none after one that is refused
pub record AreAskedInTurn (files : Files) (before after : Option Reads) (a : Asking) : Type 0 where
  pub each_once : GrowsInOrder before after (files_of a)
  pub none_after_refused : IsKnownRefused a files → GrowsInOrder before after (a.file ∷ [])

-- how often the desk is asked for the files of the words, from its count of calls before to that after
pub record AsksInTurn (files : Files) (before after : ℕ) (asked : Option Asking) : Type 0 where
  pub in_turn : (a : Asking) → asked ≡ Some a → AreReadInTurn files before after a
  pub none_asked : asked ≡ None → after ≡ before

-- for which names the desk is asked, by the reads that it tells before and after
pub record AsksByName (files : Files) (before after : Option Reads) (asked : Option Asking) : Type 0 where
  pub by_name : (a : Asking) → asked ≡ Some a → AreAskedInTurn files before after a
  pub no_name : asked ≡ None → KeepsReads before after
