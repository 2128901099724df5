use Rattle.std.proofs.Common.{refl}
use Rattle.rp_front.specs.Endings.{Rose}
use Rattle.rp_text.specs.Denotation.{budgets_in}
use Rattle.rp_fit_answers.proofs.ChoiceLemmas.{long_numbers}
use Rattle.rp_fit_answers.proofs.choices.load_budgets.Goals as goal

pub returns-in-Err-TooLong : goal.returns-in-Err-TooLong
returns-in-Err-TooLong g c = record {
  loaded = long_numbers budgets_in (g.D.Desk.bytes c.args.desk.now) (Rose (g.D.Desk.faults c.args.desk.now) (g.D.Desk.faults c.load.new.desk)) c.args.file.now c.refusal.result
      ((rw c.in-Err-TooLong.field-0-is at c.in-Err-TooLong.ensures.too_long_only) refl) c.refusal.ensures;
  read_through = c.in-Err-TooLong.ensures.read_through;
  asks_once = tt;
  asks_at_most_once = c.in-Err-TooLong.ensures.asks_at_most_once;
  bytes_stay = c.in-Err-TooLong.ensures.bytes_stay;
  never_falls = c.in-Err-TooLong.ensures.never_falls;
}
