use Rattle.rp_run_wide.proofs.fitting.answer_fit.Goals as goal

pub returns : goal.returns
returns g c =
    let own = c.run_fit-ended.ensures in
    rw c.status_of.ensures (record {
      usage = own.words;
      written = own.written;
      why = own.why;
      turns = own.turns;
      names = own.names;
      complete = own.complete;
      refused = own.refused;
      stays = own.stays;
    })
