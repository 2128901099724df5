use Rattle.std.proofs.Common.{rules, arith, ◌<◌, subst}
use Rattle.std.specs.Fmt.{decimal}
use Rattle.serde_json.specs.View.{view}
use Rattle.rp_num.specs.Spelled.{FitsWhole, IsSpelled}
use Rattle.rp_json_entries.proofs.NumberLemmas.{found, missing, one_whole}
use Rattle.rp_json_entries.proofs.numbers.PriceNotation.read.Goals as goal

pub returns-in-Some-2 : goal.returns-in-Some-2
returns-in-Some-2 c =
    found decimal FitsWhole (λ n. n < 4294967296) (view c.args.value.now) c.in-Some.text.now c.in-Some-2.number one_whole (λ y h. omega (arith, h))
    (search rules) (subst (IsSpelled decimal FitsWhole c.in-Some.text.now) c.in-Some-2.is c.in_ok-number.ensures) (search rules)

pub returns-in_default-2 : goal.returns-in_default-2
returns-in_default-2 c =
    missing decimal FitsWhole (λ n. n < 4294967296) (view c.args.value.now) c.in-Some.text.now c.in_ok-number.field-0 one_whole (λ y h. omega (arith, h))
    (search rules) c.in_ok-number.ensures (λ x e. search rules)
