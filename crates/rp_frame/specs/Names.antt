-- How names are told to a caller that has bytes alone: as it hands over words (this project's own form).
use Rattle.std.specs.Prelude.{ℕ, List, [], ◌∷◌, ◌++◌}
use Rattle.rp_frame.specs.Frames.{Frame, frame_of}

-- names one after the other, each ended by a zero byte
unfoldable pub ended_names : List (List ℕ) → List ℕ
ended_names [] = []
ended_names (name ∷ names) = name ++ 0 ∷ ended_names names

-- the frame of words without files
abbrev pub words_alone : List ℕ → Frame
words_alone words = frame_of words [] [] []
