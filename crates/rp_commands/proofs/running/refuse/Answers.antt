use Rattle.std.proofs.Common.{◌≡◌, ℕ, List, [], ◌∷◌, ◌++◌, codes, subst, append-nil, append_assoc}
use Rattle.rp_commands.specs.FaultLines.{read_line}
use Rattle.rp_commands.specs.Gains.{Gains}
use Rattle.rp_commands.proofs.running.refuse.Goals as goal

-- the line on a file that could not be read, as it is written
read_pieces : (file : List ℕ) → codes "rp: " ++ (file ++ (codes ": read failed" ++ 10 ∷ [])) ≡ read_line file
read_pieces file = simp append_assoc

pub returns-in-Read-clause-told : goal.returns-in-Read-clause-told
returns-in-Read-clause-told g c =
    let gains : List ℕ → Type 0 = Gains (g.E.Sink.written c.args.err.now) (g.E.Sink.written c.tell.new.err) (g.E.Sink.faults c.args.err.now) (g.E.Sink.faults c.tell.new.err) in
    rw c.in-Read.is (subst gains (read_pieces c.in-Read.file.now) (rw c.as_bytes.ensures.value at c.tell.ensures.gains))

pub returns-in-Refused-clause-told : goal.returns-in-Refused-clause-told
returns-in-Refused-clause-told g c = rw c.in-Refused.is (rw (append-nil, c.as_slice.ensures.value) at c.tell-in-Refused.ensures.gains)

pub returns-in-NoMemory-clause-told : goal.returns-in-NoMemory-clause-told
returns-in-NoMemory-clause-told g c = rw c.in-NoMemory.is c.tell-in-NoMemory.ensures.gains
