use Rattle.std.proofs.Common.{arith}
use Rattle.rp_num.proofs.FractionText.{parts_where_none, parts_where_stroke}
use Rattle.rp_num.proofs.read.split_at_stroke.Goals as goal

pub returns-in-Some : goal.returns-in-Some
returns-in-Some c = λ f h e. parts_where_stroke f c.args.text.now _ _ h e (c.in-Some.ensures.byte (omega arith) (λ w o p. p))

pub returns-in-None : goal.returns-in-None
returns-in-None c = λ f h e. parts_where_none f c.args.text.now h e (c.in-None.ensures.byte (omega arith) (λ w o p. p))
