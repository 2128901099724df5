-- The number that the program ends with for each status (a convention of this project's own).
use Rattle.std.specs.Prelude.{ℕ}
use Rattle.rp_answers.specs.declared.status.Status.{Status}
use Rattle.rp_answers.specs.declared.status.Status.TheVariants.{Done, Rejected, Usage, ReadFault, Refused}
use Rattle.rp_answers.specs.declared.status.Status.TheVariants.{WriteFault, NoMemory}

abbrev pub status_number : Status → ℕ
status_number Done = 0
status_number Rejected = 1
status_number Usage = 2
status_number ReadFault = 3
status_number Refused = 4
status_number WriteFault = 5
status_number NoMemory = 6
