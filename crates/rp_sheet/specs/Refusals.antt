-- How a reader refuses: with the first fault, or for want of memory, which has no cause in the file.
use Rattle.std.specs.Prelude.{◌≡◌, ◌≢◌, Option, Some, Result, Err, IfErr}
use Rattle.rp_sheet.specs.declared.fault.TableFault.{TableFault}
use Rattle.rp_sheet.specs.declared.fault.TableFault.TheVariants as fault

-- refused with the fault of this stage, or for want of memory
abbrev pub RefusedAt : {A : Type 0} → Result A TableFault → Option TableFault → Type 0
RefusedAt result stage = IfErr result (λ e. e ≢ fault.NoMemory → stage ≡ Some e)

-- refused with the fault that is denoted, or for want of memory
abbrev pub RefusedAs : {A B : Type 0} → Result A TableFault → Result B TableFault → Type 0
RefusedAs result denoted = IfErr result (λ e. e ≢ fault.NoMemory → denoted ≡ Err e)
