use Rattle.std.proofs.Common.{◌≡◌, map, string_bytes, arith}
use Rattle.rp_run_wide.proofs.RanLemmas.{ran}
use Rattle.rp_run_wide.proofs.hinting.gather.Goals as goal

pub returns-clause-ran : goal.returns-clause-ran
returns-clause-ran g c =
    let run = c.run_wide-status in
    let out_took_all : run.new.out.faults ≡ 0 = omega (arith, c.faults.ensures, c.if-faults-gt0.false) in
    let err_took_all : run.new.err.faults ≡ 0 = omega (arith, c.faults-else-faults-gt0.ensures, c.if-faults-gt0-2.false) in
    rw (c.in_ok-told.ensures, c.into_bytes-text.ensures, c.into_bytes.ensures) (ran (map string_bytes c.args.words.now.items) _ run.result run.new.out.written run.new.err.written
    c.new-out.result.written c.new-err.result.written c.new-out.result.faults run.new.out.faults c.new-err.result.faults run.new.err.faults
    c.new-out.ensures.written c.new-out.ensures.faults out_took_all c.new-err.ensures.written c.new-err.ensures.faults err_took_all
    run.ensures.words run.ensures.refused_by_clap run.ensures.written run.ensures.verdict run.ensures.why run.ensures.complete run.ensures.refused)
