-- What of a frame's request is text, and the request that was read, as contracts see it (this project's own form).
use Rattle.std.specs.Prelude.{◌≡◌, ◌∷◌, All, codes, map, string_bytes}
use Rattle.std.specs.Str.{IsUtf8}
use Rattle.rp_outside.specs.NamedFile.{named_bytes}
use Rattle.rp_frame.specs.Frames.{Request}
use Rattle.rp_frame.specs.declared.handed.Handed.{Handed}

-- its words and the names of its files are text
pub record IsText (request : Request) : Type 0 where
  pub words : All IsUtf8 request.words
  pub names : All IsUtf8 (map (λ file. file.0) request.files)

-- it was read: its words with the program's name before them, and its files
pub record Holds (handed : Handed) (request : Request) : Type 0 where
  pub words : map string_bytes handed.words.items ≡ codes "rp" ∷ request.words
  pub files : map named_bytes handed.files.items ≡ request.files
