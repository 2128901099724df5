-- A text in the room of a caller, which may have less place (this project's own form).
use Rattle.std.specs.Prelude.{ℕ, List, ◌++◌, drop, length, take}

-- a room after a text was put at its front, as much of it as has place; the rest of the room stays as it was
abbrev pub filled : List ℕ → List ℕ → List ℕ
filled room text = take (length room) text ++ drop (length text) room
