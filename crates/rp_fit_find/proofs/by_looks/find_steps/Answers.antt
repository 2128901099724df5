use Rattle.rp_fit_find.proofs.by_looks.find_steps.Goals as goal

pub returns : goal.returns
returns c = record {
  passes = c.in_ok-part.ensures.accepted;
  proves = c.in_ok-part.ensures.proves;
  fits = c.steps_fit.ensures;
}
