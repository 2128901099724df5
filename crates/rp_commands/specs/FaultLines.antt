-- The lines that tell why there is no answer (this program's own texts).
use Rattle.std.specs.Prelude.{ℕ, List, ◌++◌, codes}
use Rattle.rp_patch.specs.declared.fault.PatchFault.{PatchFault}
use Rattle.rp_patch.specs.declared.fault.PatchFault.TheVariants.{TooManyPatches, NeedUnit, NoMemory as NoPatchMemory}
use Rattle.rp_print.specs.ListText.{line_of, ordinal_text}
use Rattle.rp_types.specs.declared.fault.TypesFault.{TypesFault}
use Rattle.rp_types.specs.declared.fault.TypesFault.TheVariants.{TooManyCombinations, TooManyTypes}
use Rattle.rp_types.specs.declared.fault.TypesFault.TheVariants.{NoMemory as NoTypesMemory}

-- what is wrong with a file
abbrev pub file_line : List ℕ → List ℕ → List ℕ
file_line file fault = line_of (codes "rp: " ++ file ++ codes ": " ++ fault)

-- a file could not be read
abbrev pub read_line : List ℕ → List ℕ
read_line file = file_line file (codes "read failed")

-- choices have no patches within the limits; budgets count from 1
abbrev pub patch_line : PatchFault → List ℕ
patch_line (TooManyPatches budget) = line_of (codes "rp: TooManyPatches budget " ++ ordinal_text budget)
patch_line (NeedUnit budget) = line_of (codes "rp: NeedUnit budget " ++ ordinal_text budget)
patch_line NoPatchMemory = line_of (codes "rp: out of memory")

-- patches have no list of rational types within the limits
abbrev pub types_line : TypesFault → List ℕ
types_line TooManyCombinations = line_of (codes "rp: TooManyCombinations")
types_line TooManyTypes = line_of (codes "rp: TooManyTypes")
types_line NoTypesMemory = line_of (codes "rp: out of memory")

-- the output could not be written
abbrev pub write_line : List ℕ
write_line = line_of (codes "rp: write failed")

-- memory ran out
abbrev pub memory_line : List ℕ
memory_line = line_of (codes "rp: out of memory")
