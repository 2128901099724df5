use Rattle.std.proofs.Common.{◌∙◌, ap, false, codes}
use Rattle.std.specs.Option.{option_map_or}
use Rattle.std.specs.Str.{bytes_eq}
use Rattle.rp_command_line.proofs.arguments.asks_json.Goals as goal

pub returns-in-Some : goal.returns-in-Some
returns-in-Some c = c.eq.ensures ∙ ap (λ o. option_map_or (λ text. bytes_eq text (codes "true")) o false) c.in-Some.ensures

pub returns-in-None : goal.returns-in-None
returns-in-None c = ap (λ o. option_map_or (λ text. bytes_eq text (codes "true")) o false) c.in-None.ensures
