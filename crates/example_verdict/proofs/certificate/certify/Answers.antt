use Rattle.example_verdict.proofs.Accepted.{certificate_accepted}
use Rattle.example_verdict.proofs.certificate.certify.Goals as goal

pub returns-clause-proves : goal.returns-clause-proves
returns-clause-proves c =
    let accepted =
    certificate_accepted c.args.table.now c.in_ok-tested.tested.costs c.in_ok-tested.ensures.is_test.of_table
    c.in_ok-tested.tested.garp c.in_ok-afriat.afriat c.in_ok-efficiency.efficiency c.in_ok-certificate.certificate c.check-outcome.result
    c.in_ok-tested.ensures.is_test.is_test.proves c.in_ok-afriat.ensures.proves c.in_ok-afriat.ensures.given
    c.in_ok-efficiency.ensures.proves c.in_ok-efficiency.ensures.given
    c.in_ok-certificate.ensures c.check-outcome.ensures.first_failure in
    record {
      garp = c.in_ok-tested.tested.garp;
      afriat = c.in_ok-afriat.afriat;
      efficiency = c.in_ok-efficiency.efficiency;
      items = c.in_ok-certificate.ensures;
      proves = c.check-outcome.ensures.accepted_proves accepted;
      says = c.check-outcome.ensures.accepted_says accepted;
    }

pub returns-clause-accepted : goal.returns-clause-accepted
returns-clause-accepted c =
    certificate_accepted c.args.table.now c.in_ok-tested.tested.costs c.in_ok-tested.ensures.is_test.of_table
    c.in_ok-tested.tested.garp c.in_ok-afriat.afriat c.in_ok-efficiency.efficiency c.in_ok-certificate.certificate c.check-outcome.result
    c.in_ok-tested.ensures.is_test.is_test.proves c.in_ok-afriat.ensures.proves c.in_ok-afriat.ensures.given
    c.in_ok-efficiency.ensures.proves c.in_ok-efficiency.ensures.given
    c.in_ok-certificate.ensures c.check-outcome.ensures.first_failure
