use Rattle.std.proofs.Common.{refl}
use Rattle.rp_front.specs.Endings.{Rose}
use Rattle.rp_fit_answers.proofs.ChoiceLemmas.{long_choices}
use Rattle.rp_fit_answers.proofs.choices.load_choices.Goals as goal

pub returns-in-Err-TooLong-clause-loads : goal.returns-in-Err-TooLong-clause-loads
returns-in-Err-TooLong-clause-loads g c = record {
  loaded = long_choices c.args.budgets.now c.args.units (g.D.Desk.bytes c.args.desk.now) (Rose (g.D.Desk.faults c.args.desk.now) (g.D.Desk.faults c.load.new.desk)) c.args.file.now c.refusal.result
      ((rw c.in-Err-TooLong.field-0-is at c.in-Err-TooLong.ensures.too_long_only) refl) c.refusal.ensures;
  read_through = c.in-Err-TooLong.ensures.read_through;
  asks_once = tt;
  asks_at_most_once = c.in-Err-TooLong.ensures.asks_at_most_once;
  bytes_stay = c.in-Err-TooLong.ensures.bytes_stay;
  never_falls = c.in-Err-TooLong.ensures.never_falls;
}
