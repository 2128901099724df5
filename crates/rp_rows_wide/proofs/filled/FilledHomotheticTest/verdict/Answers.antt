use Rattle.rp_rows_wide.proofs.filled.FilledHomotheticTest.verdict.Goals as goal

pub returns-clause-proves : goal.returns-clause-proves
returns-clause-proves c = c.in_ok-found.ensures.proves

pub returns-clause-given : goal.returns-clause-given
returns-clause-given c = record { stated = c.in_ok-stated.stated; is_stated = c.in_ok-stated.ensures.given; filled = c.in_ok-found.ensures.from_stated }
