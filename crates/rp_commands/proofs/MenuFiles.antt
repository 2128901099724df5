-- What a file of menus gives, with the units of their cells.
use Rattle.std.proofs.Common.{ℕ, List, Option, Ok, Err, inl, inr, refl}
use Rattle.rp_outside.specs.Asked.{Reads}
use Rattle.rp_menu.specs.MenuLists.{MenuList}
use Rattle.rp_patch.specs.declared.apportionment.Units.{Units}
use Rattle.rp_commands.specs.Answers.{Files}
use Rattle.rp_patch.specs.Apportionment.{SaysWhyNoUnits, grouped}
use Rattle.rp_patch.specs.declared.fault.ApportionFault.TheVariants.{NeedUnit}
use Rattle.rp_commands.specs.InnerCauses.{HoldsValue, IsFileCause, IsReadingCause, IsRefusal}
use Rattle.rp_commands.specs.Endings.{Rose}
use Rattle.rp_commands.specs.InnerLoadings.{LoadsFile}
use Rattle.rp_commands.specs.MenuContents.{MenusIn, MenusOf, UnitsOf, need_unit_line}
use Rattle.rp_limits.specs.declared.run.TheConstants.{MOST_BYTES}
use Rattle.rp_commands.specs.declared.files.Cause.{Cause}
use Rattle.rp_commands.specs.declared.files.Cause.TheVariants.{Read, Refused, NoMemory}

module _ {D : Type 0} (bytes : D → Files) (faults : D → List ℕ → ℕ) (calls : D → ℕ) (asked : D → Option Reads) (old new : D) (file : List ℕ) (per : Option ℕ) where
  menus_caused : (why : Cause) → IsFileCause (bytes old) (Rose (faults old) (faults new)) file (MenusOf file) why → IsFileCause (bytes old) (Rose (faults old) (faults new)) file (MenusIn per file) why
  menus_caused (Read name) why = why
  menus_caused (Refused line) (bytes, content, refused) = (bytes, content, inl refused)
  menus_caused NoMemory why = tt

  units_caused : (list : MenuList) (why : Cause) → HoldsValue (bytes old) file (MenusOf file) list → IsReadingCause (UnitsOf list per) why → IsFileCause (bytes old) (Rose (faults old) (faults new)) file (MenusIn per file) why
  units_caused list (Read name) held none = absurd none
  units_caused list (Refused line) (bytes, content, read) refused = (bytes, content, inr (list, read, inl refused))
  units_caused list NoMemory held none = tt

  pub no_menus_load : (why : Cause) → LoadsFile bytes faults calls asked old new MOST_BYTES file (MenusOf file) (Err why) → LoadsFile bytes faults calls asked old new MOST_BYTES file (MenusIn per file) (Err why)
  no_menus_load why loads = record {
    loaded = menus_caused why loads.loaded;
    read_through = loads.read_through;
    asks_once = tt;
    asks_at_most_once = loads.asks_at_most_once;
    bytes_stay = loads.bytes_stay;
    never_falls = loads.never_falls;
  }

  pub no_units_load : (list : MenuList) (why : Cause) → LoadsFile bytes faults calls asked old new MOST_BYTES file (MenusOf file) (Ok list) → IsReadingCause (UnitsOf list per) why
      → LoadsFile bytes faults calls asked old new MOST_BYTES file (MenusIn per file) (Err why)
  no_units_load list why loads refused = record {
    loaded = units_caused list why loads.loaded refused;
    read_through = loads.read_through;
    asks_once = tt;
    asks_at_most_once = loads.asks_at_most_once;
    bytes_stay = loads.bytes_stay;
    never_falls = loads.never_falls;
  }

  pub menus_load : (list : MenuList) (units : Units) → LoadsFile bytes faults calls asked old new MOST_BYTES file (MenusOf file) (Ok list) → UnitsOf list per (Ok units)
      → LoadsFile bytes faults calls asked old new MOST_BYTES file (MenusIn per file) (Ok (list, units))
  menus_load list units loads made =
      let held = loads.loaded in
      record {
        loaded = (held.0, held.1, (list, held.2, (units, made, refl)));
        read_through = loads.read_through;
        asks_once = loads.asks_once;
        asks_at_most_once = loads.asks_at_most_once;
        bytes_stay = loads.bytes_stay;
        never_falls = loads.never_falls;
      }

-- a line that tells the want of a number of units is why there are none
pub unit_needed_cause : (list : MenuList) (per : Option ℕ) (menu : ℕ) (why : Cause) → SaysWhyNoUnits (grouped list.groups list.counts) per (NeedUnit menu)
    → IsRefusal (need_unit_line menu) why → IsReadingCause (UnitsOf list per) why
unit_needed_cause list per menu (Read name) says refused = absurd refused
unit_needed_cause list per menu (Refused line) says refused = (menu, says, refused)
unit_needed_cause list per menu NoMemory says refused = tt
