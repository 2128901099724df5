-- What the form of a command says (this program's own words): its name, its files and its numbers in the order of the
-- words, its options, and which tables it takes. What `clap` is told, the usage text, the words of a line and what its
-- matches name follow from it.
use Rattle.std.specs.Prelude.{ℕ, ◌-◌, ◌^◌, Bool, true, false, List, [], codes}
use Rattle.clap.specs.Walk.{Text}
use Rattle.rp_limits.specs.declared.patch.TheConstants.{UNITS}
use Rattle.rp_limits.specs.declared.table.TheConstants.{GOODS}
use Rattle.rp_command_line.specs.declared.commands.FileSet.{FileSet}
use Rattle.rp_limits.specs.declared.command_line.TheConstants.{MOST_DRAWS, MOST_ROWS}

-- a number from least to most
pub record NumberArgument : Type 0 where
  pub name : Text
  pub least : ℕ
  pub most : ℕ

pub record CommandForm : Type 0 where
  pub name : Text
  pub files : FileSet
  pub numbers : List NumberArgument
  -- whether it takes `--per N`, which asks for so many units on each budget or menu
  pub per : Bool
  -- whether it takes `--json`, which asks for a certificate
  pub json : Bool
  -- whether it takes a table whose observations have levels of their own
  pub levels : Bool

-- the state that a generator starts from, and how many observations and goods a trial table has
abbrev pub seed : NumberArgument
seed = record { name = codes "SEED"; least = 0; most = 2 ^ 64 - 1 }

abbrev pub rows : NumberArgument
rows = record { name = codes "ROWS"; least = 1; most = MOST_ROWS }

abbrev pub goods : NumberArgument
goods = record { name = codes "GOODS"; least = 1; most = GOODS }

-- how many random behaviours are drawn
abbrev pub draws : NumberArgument
draws = record { name = codes "N"; least = 1; most = MOST_DRAWS }

-- how many units there are on each budget or menu
abbrev pub units : NumberArgument
units = record { name = codes "per"; least = 1; most = UNITS }

-- a form with files alone; with numbers after them; with options; with levels that a table may have
abbrev pub over : Text → FileSet → CommandForm
over name files = record { name = name; files = files; numbers = []; per = false; json = false; levels = false }

abbrev pub with_numbers : List NumberArgument → CommandForm → CommandForm
with_numbers numbers form = record form { numbers = numbers }

abbrev pub with_per : CommandForm → CommandForm
with_per form = record form { per = true }

abbrev pub with_json : CommandForm → CommandForm
with_json form = record form { json = true }

abbrev pub with_levels : CommandForm → CommandForm
with_levels form = record form { levels = true }
