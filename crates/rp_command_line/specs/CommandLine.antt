-- The commands of the program, each with its form, and the lines that may be asked for: a command with what is given
-- to it (this program's own commands).
use Rattle.std.specs.Prelude.{ℕ, Bool, List, [], ◌∷◌, Option, codes, find, map, slice_index_or}
use Rattle.std.specs.Str.{bytes_eq}
use Rattle.clap.specs.Walk.{Text}
use Rattle.rp_command_line.specs.CommandForms.{CommandForm, draws, goods, over, rows, seed, with_json}
use Rattle.rp_command_line.specs.CommandForms.{with_levels, with_numbers, with_per}
use Rattle.rp_command_line.specs.declared.commands.Command.{Command}
use Rattle.rp_command_line.specs.declared.commands.Command.TheVariants.{Pairs, Analyse, Certify, Check, Demand, Welfare}
use Rattle.rp_command_line.specs.declared.commands.Command.TheVariants.{Utility, Patches}
use Rattle.rp_command_line.specs.declared.commands.Command.TheVariants.{Random, CheckRandom, Trial, Menus, Pump, Cost, Power}
use Rattle.rp_command_line.specs.declared.commands.FileSet.{FileSet}
use Rattle.rp_command_line.specs.declared.commands.FileSet.TheVariants as files

-- a file of a command: one of numbers, by what the usage calls it, or a certificate
pub data File : Type 0 where
  Numbers : (name : Text) → File
  Certificate : File

abbrev pub file_name : File → Text
file_name (Numbers name) = name
file_name Certificate = codes "CERT"

-- the files of each set, in the order of the words
abbrev pub files_in : FileSet → List File
files_in files.Nothing = []
files_in files.Table = Numbers (codes "TABLE") ∷ []
files_in files.TableAndCertificate = Numbers (codes "TABLE") ∷ Certificate ∷ []
files_in files.TableAndPricesWithExpenditure = Numbers (codes "TABLE") ∷ Numbers (codes "NEW") ∷ []
files_in files.TableAndPrices = Numbers (codes "TABLE") ∷ Numbers (codes "NEW") ∷ []
files_in files.TableAndBundles = Numbers (codes "TABLE") ∷ Numbers (codes "BUNDLES") ∷ []
files_in files.Choices = Numbers (codes "BUDGETS") ∷ Numbers (codes "CHOICES") ∷ []
files_in files.ChoicesAndCertificate = Numbers (codes "BUDGETS") ∷ Numbers (codes "CHOICES") ∷ Certificate ∷ []
files_in files.Menus = Numbers (codes "FILE") ∷ []
files_in files.TechnologyAndAsked = Numbers (codes "TECH") ∷ Numbers (codes "NEW") ∷ []

abbrev pub file_names : FileSet → List Text
file_names set = map file_name (files_in set)

abbrev pub form_of : Command → CommandForm
form_of Pairs = with_levels (over (codes "pairs") files.Table)
form_of Analyse = with_levels (over (codes "analyse") files.Table)
form_of Certify = with_levels (over (codes "certify") files.Table)
form_of Check = with_levels (over (codes "check") files.TableAndCertificate)
form_of Demand = with_json (over (codes "demand") files.TableAndPricesWithExpenditure)
form_of Welfare = with_json (over (codes "welfare") files.TableAndPrices)
form_of Utility = with_levels (over (codes "utility") files.TableAndBundles)
form_of Random = with_per (with_json (over (codes "random") files.Choices))
form_of CheckRandom = with_per (over (codes "checkrandom") files.ChoicesAndCertificate)
form_of Patches = with_per (over (codes "patches") files.Choices)
form_of Trial = with_numbers (seed ∷ rows ∷ goods ∷ []) (over (codes "trial") files.Nothing)
form_of Menus = with_per (over (codes "menus") files.Menus)
form_of Pump = over (codes "pump") files.Table
form_of Cost = over (codes "cost") files.TechnologyAndAsked
form_of Power = with_numbers (seed ∷ draws ∷ []) (over (codes "power") files.Table)

-- in the order of the usage text
abbrev pub commands : List Command
commands =
    Pairs ∷ Analyse ∷ Certify ∷ Check ∷ Demand ∷ Welfare ∷ Utility ∷ Random ∷ CheckRandom ∷ Patches
    ∷ Trial ∷ Menus ∷ Pump ∷ Cost ∷ Power ∷ []

abbrev pub forms : List CommandForm
forms = map form_of commands

-- the command of that name
abbrev pub command_named : Text → Option Command
command_named name = find (λ command. bytes_eq name (form_of command).name) commands

-- what is given to a command: its files and its numbers in the order of the words, and its options
pub record Arguments : Type 0 where
  pub files : List Text
  pub numbers : List ℕ
  pub per : Option ℕ
  pub json : Bool

abbrev pub file : Arguments → ℕ → List ℕ
file arguments k = slice_index_or arguments.files k []

abbrev pub number : Arguments → ℕ → ℕ
number arguments k = slice_index_or arguments.numbers k 0

-- a command with what is given to it
pub record Line : Type 0 where
  pub command : Command
  pub arguments : Arguments

-- which files a line is given
abbrev pub file_set : Line → FileSet
file_set line = (form_of line.command).files

-- whether it takes a table whose observations have levels of their own
abbrev pub takes_levels : Line → Bool
takes_levels line = (form_of line.command).levels

-- the files of a line, in the order of the words
abbrev pub files_of : Line → List (List ℕ)
files_of line = line.arguments.files

-- the k-th file of a line, from 0
abbrev pub file_at : Line → ℕ → List ℕ
file_at line k = file line.arguments k
