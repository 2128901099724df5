use Rattle.rp_fit_find.proofs.by_looks.find_levels.Goals as goal

pub returns-clause-ready : goal.returns-clause-ready
returns-clause-ready c = record {
  passes = c.in_ok-part.ensures.accepted;
  proves = c.in_ok-part.ensures.proves;
  fits = c.levels_fit.ensures;
}
