use Rattle.std.proofs.Common.{append-nil}
use Rattle.rp_front.proofs.ending.refuse.Goals as goal

pub returns-in-Read-clause-told : goal.returns-in-Read-clause-told
returns-in-Read-clause-told g c = rw c.in-Read.is (rw c.as_bytes.ensures.value at c.tell_error.ensures.gains)

pub returns-in-Refused-clause-told : goal.returns-in-Refused-clause-told
returns-in-Refused-clause-told g c =
    rw c.in-Refused.is (rw (append-nil, c.code_of_line.ensures, c.as_slice-line.ensures.value) at c.tell_error-in-Refused.ensures.gains)

pub returns-in-NoMemory-clause-told : goal.returns-in-NoMemory-clause-told
returns-in-NoMemory-clause-told g c = rw c.in-NoMemory.is c.tell_error-in-NoMemory.ensures.gains
