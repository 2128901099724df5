-- The shapes in which each line can be written, by the form of its command: the command, its files and its numbers,
-- in decimal digits, and its options (this program's own words).
use Rattle.std.specs.Prelude.{◌≡◌, ◌==◌, ◌≤◌, ℕ, Bool, true, false, not, List, [], ◌∷◌, ◌++◌, Option, Some, None}
use Rattle.std.specs.Prelude.{IfSome, codes, map, if◌then◌else◌}
use Rattle.std.specs.Fmt.{decimal}
use Rattle.clap.specs.Walk.{Text}
use Rattle.rp_command_line.specs.CommandLine.{Arguments, Line, form_of}
use Rattle.rp_command_line.specs.CommandForms.{CommandForm, NumberArgument, units}
use Rattle.rp_command_line.specs.CommandLine.{file_names}

-- a word that names a file: it is not empty and begins with no minus sign
abbrev pub is_file_name : List ℕ → Bool
is_file_name [] = false
is_file_name (byte ∷ _) = not (byte == 45)

-- the word that asks for JSON
abbrev pub json_word : Bool → List (List ℕ)
json_word json = if json then codes "--json" ∷ [] else []

-- the words that ask for so many units on each budget or menu
abbrev pub per_words : Option ℕ → List (List ℕ)
per_words None = []
per_words (Some n) = codes "--per" ∷ decimal n ∷ []

-- the words that give this to a command
abbrev pub words_of : Arguments → List (List ℕ)
words_of arguments =
    arguments.files ++ (map decimal arguments.numbers ++ (per_words arguments.per ++ json_word arguments.json))

-- the words of a line after the program's name
abbrev pub shape_of : Line → List (List ℕ)
shape_of line = (form_of line.command).name ∷ words_of line.arguments

-- a name for each file
abbrev pub AreFileNames : List Text → List Text → Type 0
AreFileNames [] [] = Unit {0}
AreFileNames (id ∷ ids) (file ∷ files) = (is_file_name file ≡ true) × AreFileNames ids files
AreFileNames _ _ = ⊥

abbrev pub IsInRange : NumberArgument → ℕ → Type 0
IsInRange number n = (number.least ≤ n) × (n ≤ number.most)

-- a number in range for each number
abbrev pub AreInRange : List NumberArgument → List ℕ → Type 0
AreInRange [] [] = Unit {0}
AreInRange (number ∷ numbers) (n ∷ ns) = IsInRange number n × AreInRange numbers ns
AreInRange _ _ = ⊥

-- units in range where they are asked for, and where the command takes them
abbrev pub AreUnits : Bool → Option ℕ → Type 0
AreUnits true per = IfSome per (IsInRange units)
AreUnits false per = per ≡ None

-- JSON where it is asked for, and where the command has it
abbrev pub MayAsk : Bool → Bool → Type 0
MayAsk true json = Unit {0}
MayAsk false json = json ≡ false

-- the numbers that are given are those of the form, each in its range
abbrev pub HasRanges : CommandForm → Arguments → Type 0
HasRanges form arguments = AreInRange form.numbers arguments.numbers × AreUnits form.per arguments.per

-- what is given fits the form
abbrev pub Fits : CommandForm → Arguments → Type 0
Fits form arguments =
    AreFileNames (file_names form.files) arguments.files × HasRanges form arguments × MayAsk form.json arguments.json

-- its files have names and its numbers are in range
abbrev pub HasShape : Line → Type 0
HasShape line = Fits (form_of line.command) line.arguments
