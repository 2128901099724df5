-- The word of each fault, and the record and the column that it is at, where it has them (this program's own texts).
use Rattle.std.specs.Prelude.{ℕ, List, Option, codes, ◌++◌}
use Rattle.rp_rows.specs.Faults.{column_of_fault, fault_word, row_of_fault}
use Rattle.rp_rows.specs.declared.fault.Fault.{Fault}
use Rattle.rp_rows.specs.declared.fault.Fault.TheVariants.{OfTable}
use Rattle.rp_bound_rows.specs.declared.fault.BoundFault.{BoundFault}
use Rattle.rp_bound_rows.specs.declared.fault.BoundFault.TheVariants.{OfHousehold, OfNewPrices}

-- the fault in its file: the long one, or that of the new prices
abbrev pub in_its_file : BoundFault → Fault
in_its_file (OfHousehold f) = f
in_its_file (OfNewPrices f) = OfTable f

-- the word of a fault; that of the new prices has a mark before it
abbrev pub bound_fault_word : BoundFault → List ℕ
bound_fault_word (OfHousehold f) = fault_word f
bound_fault_word (OfNewPrices f) = codes "NEW: " ++ fault_word (OfTable f)

abbrev pub row_of_bound_fault : BoundFault → Option ℕ
row_of_bound_fault f = row_of_fault (in_its_file f)

abbrev pub column_of_bound_fault : BoundFault → Option ℕ
column_of_bound_fault f = column_of_fault (in_its_file f)
