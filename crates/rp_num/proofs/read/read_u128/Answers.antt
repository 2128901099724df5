use Rattle.std.proofs.Common.{rules}
use Rattle.std.specs.Fmt.{decimal}
use Rattle.rp_num.specs.Spelled.{FitsWhole}
use Rattle.rp_num.proofs.ReadLemmas.{parsed, spelled, not_spelled, Ok-injective}
use Rattle.rp_num.proofs.read.read_u128.Goals.{then-eq, else-eq}
use Rattle.rp_num.proofs.read.read_u128.Goals as goal

pub returns-in_default : goal.returns-in_default
returns-in_default c =
    λ x h e. let p = parsed x c.args.text.now c.parse.result h e c.parse.ensures.value.0 in search rules

pub returns : goal.returns
returns c = elim c.if-eq.branch [
  | then-eq w ↦ rw w.result-is (spelled decimal FitsWhole c.args.text.now c.in-Ok.n (search rules) (search rules))
  | else-eq w ↦ rw w.result-is (not_spelled decimal FitsWhole c.args.text.now c.in-Ok.n (λ y h e. Ok-injective y c.in-Ok.n c.parse.result (parsed y c.args.text.now c.parse.result h e c.parse.ensures.value.0) c.in-Ok.is) (search rules))
]
