use Rattle.rp_fit_find.proofs.parts.Parts.find.Goals as goal

pub returns-clause-ready : goal.returns-clause-ready
returns-clause-ready c = record {
  violations = c.find_violations-violations.ensures;
  efficiency = c.in_ok-efficiency.ensures;
  kept = c.in_ok-kept.ensures;
  mean = c.in_ok-mean.ensures.ready;
  by_mean = c.in_ok-mean.ensures.lack;
  squares = c.in_ok-squares.ensures.ready;
  by_squares = c.in_ok-squares.ensures.lack;
  steps = c.in_ok-steps.ensures;
  pump = c.in_ok-pump.ensures.ready;
  quasilinear = c.in_ok-quasilinear.ensures;
  homothetic = c.in_ok-homothetic.ensures;
}

pub returns-clause-pump : goal.returns-clause-pump
returns-clause-pump c = c.in_ok-pump.ensures.left_out
