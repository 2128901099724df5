-- What follows for the value of a result.
use Rattle.std.proofs.Common.{Result, Ok, Err, IfOk}

-- what follows for each value follows for the value of a result
pub if_ok : {T E : Type 0} (result : Result T E) {P Q : T → Type 0} → ((value : T) → P value → Q value) → IfOk result P → IfOk result Q
if_ok (Ok value) more is = more value is
if_ok (Err cause) more is = is
