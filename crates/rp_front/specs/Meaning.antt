-- What a program is: the words that it takes, the files that it reads for them, and what it answers over the bytes of
-- these files (this project's own).
use Rattle.std.specs.Prelude.{ℕ, List, Option}
use Rattle.rp_front.specs.declared.status.Status.{Status}

-- Asked: what words can ask
-- name: what each line on standard error begins with
-- usage: what is told where words ask for nothing that the program takes
-- asked_in: what words ask, by their bytes, the program's name first
-- files_of: the names of the files of what is asked, in the order in which they are read
-- limits_of: the most bytes of each of them
-- answers: over files of these bytes, with this status: the text for the output, and what is told before it is written
-- accepts: files of these bytes are accepted
-- refuses: what is known of the bytes of the files, by their number from 0, is refused with this line, whatever else
-- they hold
pub record Meaning : Type 1 where
  pub Asked : Type 0
  pub name : List ℕ
  pub usage : List ℕ
  pub asked_in : List (List ℕ) → Option Asked
  pub files_of : Asked → List (List ℕ)
  pub limits_of : Asked → List ℕ
  pub answers : Asked → (ℕ → List ℕ) → Status → List ℕ → List ℕ → Type 0
  pub accepts : Asked → (ℕ → List ℕ) → Type 0
  pub refuses : Asked → (ℕ → Option (List ℕ)) → List ℕ → Type 0
