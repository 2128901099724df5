use Rattle.std.proofs.Common.{subst, Option}
use Rattle.std.specs.Prelude.{MatchOption}
use Rattle.rp_generated.specs.InnerLight.{AreListed}
use Rattle.rp_generated.specs.InnerRounds.{HasPrices}
use Rattle.rp_generated.specs.Rounds.{SomePriceIsWide}
use Rattle.rp_generated.specs.declared.prices.Prices.{Prices}
use Rattle.rp_generated.proofs.RoundLaws.{found_light}
use Rattle.rp_generated.proofs.rounds.found_by.Goals as goal

pub returns-clause-finds : goal.returns-clause-finds
returns-clause-finds c =
    let p = c.args.patches.now in
    let g = c.args.program.now in
    let are = subst (λ (found : Option Prices). MatchOption found (SomePriceIsWide p g) (λ prices. AreListed p prices × HasPrices p g prices.prices.items)) c.in-Some.is c.in_ok-prices.ensures in
    found_light p g c.in-Some.prices.prices.items c.den-den.result c.in_ok-light_types.field-0 are.1 c.den-den.ensures.exact c.in_ok-light_types.ensures.ended
