-- The hint for a code (this project's own texts, which stand in `src/hints.rt`).
use Rattle.std.specs.Prelude.{ℕ, List, [], ◌∷◌, ◌++◌, codes, map, if◌then◌else◌}
use Rattle.std.specs.Str.{bytes_eq}
use Rattle.rp_guide.specs.declared.hints.TheConstants.{HINTS}

-- the text that a table has for a code, or nothing
abbrev pub text_in : List (List ℕ × List ℕ) → List ℕ → List ℕ
text_in [] code = []
text_in (hint ∷ hints) code = if bytes_eq hint.0 code then hint.1 else text_in hints code

-- that of the table of all hints
unfoldable pub hint_text : List ℕ → List ℕ
hint_text code = text_in (map (λ h. (h.0.now, h.1.now)) HINTS) code

-- a text as a line of its own, behind a label, and no line for no text
abbrev pub labelled : List ℕ → List ℕ → List ℕ
labelled label [] = []
labelled label (byte ∷ bytes) = label ++ ((byte ∷ bytes) ++ 10 ∷ [])

-- the line of the hint for a code, and the same as a note
abbrev pub hint_line : List ℕ → List ℕ
hint_line code = labelled (codes "hint: ") (hint_text code)

abbrev pub note_line : List ℕ → List ℕ
note_line code = labelled (codes "note: ") (hint_text code)
