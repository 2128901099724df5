-- How many calls it takes to read a file to its end: where each gives a single byte, as many as there are bytes, and
-- then the one that finds nothing left.
use Rattle.std.specs.Prelude.{ℕ, ◌+◌, List, Option, Some, None, length, min}

-- the most calls to read a name through, of which at most so many bytes are taken; a name whose bytes are not known may
-- have as many
abbrev pub calls_through : ℕ → Option (List ℕ) → ℕ
calls_through limit (Some bytes) = min (length bytes) limit + 1
calls_through limit None = limit + 1
