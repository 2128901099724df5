-- How a caller that has bytes alone hands over the words of a command line and the files that they name (this project's
-- own form).
use Rattle.std.specs.Prelude.{ℕ, zero, suc, List, [], ◌∷◌, length, take, drop, nat_le, if◌then◌else◌}
use Rattle.std.specs.Prelude.{Option, Some, None, option_map, option_and_then}

-- what is handed over: the words and the names of the files, each ended by a zero byte; how many bytes each file has, in
-- the order of the names; and the bytes of the files, one after the other
pub record Frame : Type 0 where
  pub words : List ℕ
  pub names : List ℕ
  pub sizes : List ℕ
  pub bytes : List ℕ

-- the words of a command line after the program's name, and files, each as the pair of its name and its bytes
pub record Request : Type 0 where
  pub words : List (List ℕ)
  pub files : List (List ℕ × List ℕ)

abbrev pub frame_of : List ℕ → List ℕ → List ℕ → List ℕ → Frame
frame_of words names sizes bytes = record { words = words; names = names; sizes = sizes; bytes = bytes }

-- a byte before the first of some pieces
abbrev pub onto_first_piece : ℕ → List (List ℕ) → Option (List (List ℕ))
onto_first_piece byte [] = None
onto_first_piece byte (piece ∷ pieces) = Some ((byte ∷ piece) ∷ pieces)

-- the pieces of bytes in which each piece is ended by a zero byte; none where the last is not ended
unfoldable pub pieces_in : List ℕ → Option (List (List ℕ))
pieces_in [] = Some []
pieces_in (zero ∷ bytes) = option_map (λ pieces. [] ∷ pieces) (pieces_in bytes)
pieces_in (suc n ∷ bytes) = option_and_then (onto_first_piece (suc n)) (pieces_in bytes)

-- the parts of these sizes, one after the other, that are all of the bytes; none where bytes are missing or left over
unfoldable pub parts_in : List ℕ → List ℕ → Option (List (List ℕ))
parts_in [] [] = Some []
parts_in [] (byte ∷ bytes) = None
parts_in (size ∷ sizes) bytes =
    if nat_le size (length bytes) then option_map (λ parts. take size bytes ∷ parts) (parts_in sizes (drop size bytes))
    else None

-- each name with the part of its place; none where there are not as many names as parts
unfoldable pub named_parts : List (List ℕ) → List (List ℕ) → Option (List (List ℕ × List ℕ))
named_parts [] [] = Some []
named_parts (name ∷ names) (part ∷ parts) = option_map (λ files. (name, part) ∷ files) (named_parts names parts)
named_parts names parts = None

-- the files of these names, sizes and bytes
abbrev pub files_in : List (List ℕ) → Option (List (List ℕ)) → Option (List (List ℕ × List ℕ))
files_in names parts = option_and_then (named_parts names) parts

-- what a frame holds; nothing where it is malformed
abbrev pub request_in : Frame → Option Request
request_in frame =
    option_and_then (λ words. option_and_then (λ names.
    option_map (λ files. record { words = words; files = files }) (files_in names (parts_in frame.sizes frame.bytes)))
    (pieces_in frame.names)) (pieces_in frame.words)
