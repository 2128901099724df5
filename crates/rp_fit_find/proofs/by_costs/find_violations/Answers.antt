use Rattle.rp_fit_find.proofs.by_costs.find_violations.Goals as goal

pub returns : goal.returns
returns c = record {
  passes = c.count_violations-part.ensures.accepted;
  proves = c.count_violations-part.ensures.proves;
  fits = (c.count_fits.ensures, c.count_fits-5.ensures, c.count_fits-4.ensures, c.count_fits-3.ensures, c.count_fits-2.ensures);
}
