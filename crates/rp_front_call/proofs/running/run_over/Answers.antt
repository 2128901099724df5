use Rattle.std.proofs.Common.{◌≡◌, map, string_bytes, arith}
use Rattle.rp_outside.specs.NamedFile.{named_bytes}
use Rattle.rp_front.specs.declared.status.Status.TheVariants.{NoMemory}
use Rattle.rp_front_call.proofs.RunFacts.{ended_run}
use Rattle.rp_front_call.proofs.running.run_over.Goals as goal

pub returns : goal.returns
returns g c =
    let run = c.run-status in
    let other : run.result ≡ NoMemory → ⊥ = λ is. (let wrong = rw is at c.if-eq.ensures in cc) in
    let out_took_all : run.new.out.faults ≡ 0 = omega (arith, c.faults.ensures, c.if-faults-gt0.false) in
    let err_took_all : run.new.err.faults ≡ 0 = omega (arith, c.faults-else-faults-gt0.ensures, c.if-faults-gt0-2.false) in
    rw (c.into_bytes.ensures, c.into_bytes-2.ensures) (ended_run g.P.CalledProgram.meaning c.new-desk.result (map named_bytes c.args.files.items) (g.P.CalledProgram.meaning.asked_in (map string_bytes c.args.words.now.items)) run.result _
    c.new-out.result.written run.new.out.written c.new-err.result.written run.new.err.written
    c.new-out.result.faults run.new.out.faults c.new-err.result.faults run.new.err.faults
    c.new-desk.ensures.files c.new-out.ensures.written c.new-out.ensures.faults out_took_all
    c.new-err.ensures.written c.new-err.ensures.faults err_took_all other run.ensures.words run.ensures.written run.ensures.why)
