-- The code of a line on standard error, or of a checker's verdict: a word of it.
use Rattle.std.specs.Prelude.{ℕ, List, [], ◌∷◌, ◌==◌, ◌||◌, ◌&&◌, Bool, true, false, codes, drop, if◌then◌else◌}
use Rattle.std.specs.Str.{bytes_eq}

-- a colon and a blank begin a text
abbrev pub is_colon : List ℕ → Bool
is_colon [] = false
is_colon (byte ∷ []) = false
is_colon (byte ∷ (next ∷ rest)) = (byte == 58) && (next == 32)

-- what follows the last colon and blank of a text, or else what was found before
abbrev pub last_part : List ℕ → List ℕ → List ℕ
last_part found [] = found
last_part found (byte ∷ rest) = last_part (if is_colon (byte ∷ rest) then drop 2 (byte ∷ rest) else found) rest

-- the word with which a text begins, up to a blank or the end of the line
abbrev pub first_word : List ℕ → List ℕ
first_word [] = []
first_word (byte ∷ rest) = if (byte == 32) || (byte == 10) then [] else byte ∷ first_word rest

-- the code of a line that reports an error: the word after its last colon
abbrev pub code_of_line : List ℕ → List ℕ
code_of_line line = first_word (last_part line line)

-- what follows the first blank of a text
abbrev pub after_blank : List ℕ → List ℕ
after_blank [] = []
after_blank (byte ∷ rest) = if byte == 32 then rest else after_blank rest

-- of an accepted certificate by its number of items, which is 0 where nothing is proved
abbrev pub accepted_code : List ℕ → List ℕ
accepted_code number = if bytes_eq number (codes "0") then codes "Nothing" else codes "Accepted"

-- the third and the fourth word of a text
abbrev pub third_word : List ℕ → List ℕ
third_word text = first_word (after_blank (after_blank text))

abbrev pub fourth_word : List ℕ → List ℕ
fourth_word text = first_word (after_blank (after_blank (after_blank text)))

-- the code of a text with this first word
abbrev pub code_by_word : List ℕ → List ℕ → List ℕ
code_by_word word text =
    if bytes_eq word (codes "accepted") then accepted_code (third_word text)
    else if bytes_eq word (codes "rejected") then fourth_word text
    else []

-- the code of a checker's verdict, `accepted items N ..` or `rejected item I REASON ..`, and none of other texts
abbrev pub check_code : List ℕ → List ℕ
check_code text = code_by_word (first_word text) text

-- of these codes those that are noted
abbrev pub noted : List ℕ → List ℕ
noted code =
    if bytes_eq code (codes "Nothing") then codes "Nothing"
    else if bytes_eq code (codes "Accepted") then codes "Accepted"
    else []

-- the code of the note beside a checker's verdict: it is told where a certificate is accepted
abbrev pub note_code : List ℕ → List ℕ
note_code text = noted (check_code text)
