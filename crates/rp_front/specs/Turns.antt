-- How often a desk is asked for the files of what is asked: for one after another, for none a second time, and for no
-- further one once a file is refused (this project's own order).
use Rattle.std.specs.Prelude.{◌≤◌, ℕ, ◌+◌, List, [], ◌∷◌, length, sum, take}
use Rattle.rp_outside.specs.Reads.{calls_through}
use Rattle.rp_front.specs.Contents.{AreRefused, Files}
use Rattle.rp_front.specs.Meaning.{Meaning}

-- the most calls to read each of some files through, by the most bytes of each
abbrev pub calls_of_each : Files → List ℕ → List (List ℕ) → List ℕ
calls_of_each files (limit ∷ limits) (file ∷ more) = calls_through limit (files file) ∷ calls_of_each files limits more
calls_of_each files _ _ = []

-- those of what is asked, in its order
abbrev pub calls_of_files : (m : Meaning) → Files → m.Asked → List ℕ
calls_of_files m files a = calls_of_each files (m.limits_of a) (m.files_of a)

-- from its count of calls before to that after, the desk was asked for no more than the first n files, each once
abbrev pub AsksForFirst : (m : Meaning) → Files → ℕ → ℕ → m.Asked → ℕ → Type 0
AsksForFirst m files before after a n = after ≤ before + sum (take n (calls_of_files m files a))

-- each file is read through at most once, and none after one that is refused
pub record AreReadInTurn (m : Meaning) (files : Files) (before after : ℕ) (a : m.Asked) : Type 0 where
  pub each_once : AsksForFirst m files before after a (length (m.files_of a))
  pub none_after_refused : (n : ℕ) → AreRefused m files a n → AsksForFirst m files before after a n
