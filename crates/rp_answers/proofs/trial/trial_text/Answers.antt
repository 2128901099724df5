use Rattle.rp_answers.proofs.trial.trial_text.Goals as goal

pub returns : goal.returns
returns g c =
    let v = c.in_ok-verdicts.verdicts in
    record {
      garp = v.garp;
      efficiency = v.efficiency;
      homothetic = v.homothetic;
      quasilinear = v.quasilinear;
      verdicts = rw c.in_ok-table.ensures at c.in_ok-verdicts.ensures;
      text_is = c.in_ok-text.ensures;
    }
