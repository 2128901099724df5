-- The text that tells how the program is called, by the forms of its commands (this program's own text).
use Rattle.std.specs.Prelude.{ℕ, List, [], ◌∷◌, ◌++◌, codes, map, if◌then◌else◌}
use Rattle.clap.specs.Walk.{Text}
use Rattle.rp_command_line.specs.CommandLine.{forms}
use Rattle.rp_command_line.specs.CommandForms.{CommandForm}
use Rattle.rp_command_line.specs.CommandLine.{file_names}

-- words, each after a blank
abbrev pub spaced : List Text → List ℕ
spaced [] = []
spaced (word ∷ words) = 32 ∷ word ++ spaced words

-- how a command of a program of this name is called
abbrev pub call_text : Text → CommandForm → List ℕ
call_text program form =
    program ++ 32 ∷ form.name ++ spaced (file_names form.files) ++ spaced (map (λ number. number.name) form.numbers)
    ++ (if form.per then codes " [--per N]" else []) ++ (if form.json then codes " [--json]" else [])

-- the lines of the calls, where the first begins so, and each further one with as many blanks
abbrev pub calls_text : Text → List ℕ → List CommandForm → List ℕ
calls_text program start [] = []
calls_text program start (form ∷ more) =
    start ++ call_text program form ++ 10 ∷ calls_text program (codes "       ") more

-- of a program of this name
abbrev pub usage_text_of : Text → List ℕ
usage_text_of program = calls_text program (codes "usage: ") forms

-- of the program `rp`
abbrev pub usage_text : List ℕ
usage_text = usage_text_of (codes "rp")
