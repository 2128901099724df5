use Rattle.std.proofs.Common.{rules, ◌≡◌, Some, ◌∙◌}
use Rattle.std.specs.Fmt.{signed_decimal}
use Rattle.rp_num.specs.Spelled.{FitsSum}
use Rattle.rp_num.proofs.ReadLemmas.{fits_sum, least_too_wide, parsed_sum, spelled, not_spelled, Ok-injective}
use Rattle.rp_num.proofs.read.read_i128.Goals.{then-eq, else-eq}
use Rattle.rp_num.proofs.read.read_i128.Goals as goal

pub returns-in_default : goal.returns-in_default
returns-in_default c =
    λ x h e. let p = parsed_sum x c.args.text.now c.parse.result h e c.parse.ensures.value.0 in search rules

pub returns : goal.returns
returns c = elim c.if-eq.branch [
  | then-eq w ↦
      let is : c.if-eq.result ≡ Some c.in-Ok.z = search rules in
      rw is (spelled signed_decimal FitsSum c.args.text.now c.in-Ok.z (fits_sum _ (search rules) (λ e. search rules)) (search rules))
  | else-eq w ↦ rw w.result-is (not_spelled signed_decimal FitsSum c.args.text.now c.in-Ok.z (λ y h e. Ok-injective y c.in-Ok.z c.parse.result (parsed_sum y c.args.text.now c.parse.result h e c.parse.ensures.value.0) c.in-Ok.is) (search rules))
]

pub returns-then-z : goal.returns-then-z
returns-then-z c =
    λ x h e.
    let p = parsed_sum x c.args.text.now c.parse.result h e c.parse.ensures.value.0 in
    let same = Ok-injective x c.in-Ok.z c.parse.result p c.in-Ok.is in
    least_too_wide x (same ∙ search rules) h
