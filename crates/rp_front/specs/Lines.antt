-- The lines that tell why there is no answer, and the hints after them (this project's own texts).
use Rattle.std.specs.Prelude.{ℕ, Bool, true, false, List, [], ◌∷◌, ◌++◌, codes}
use Rattle.rp_guide.specs.Hints.{hint_line}

-- a file could not be read
abbrev pub read_line : List ℕ → List ℕ → List ℕ
read_line program file = program ++ (codes ": " ++ (file ++ (codes ": read failed" ++ 10 ∷ [])))

-- the output could not be written
abbrev pub write_line : List ℕ → List ℕ
write_line program = program ++ (codes ": write failed" ++ 10 ∷ [])

-- memory ran out
abbrev pub memory_line : List ℕ → List ℕ
memory_line program = program ++ (codes ": out of memory" ++ 10 ∷ [])

-- the line of an error, with the line of the hint for its code where hints are wanted
abbrev pub hinted : Bool → List ℕ → List ℕ → List ℕ
hinted false code line = line
hinted true code line = line ++ hint_line code
