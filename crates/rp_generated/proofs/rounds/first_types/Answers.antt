use Rattle.std.proofs.Common.{◌≡◌, ◌<◌, ◌≤◌, ◌∙◌, IfSome, MatchOption, Option, arith, inl, length, rules, subst}
use Rattle.rp_generated.specs.InnerRounds.{FindsBy}
use Rattle.rp_generated.specs.Rounds.{SomePriceIsWide}
use Rattle.rp_generated.specs.InnerLooks.{LookedFrom}
use Rattle.rp_generated.specs.declared.looked.Lightest.{Lightest}
use Rattle.rp_generated.proofs.Looks.{one_search, plain_after, plain_alone}
use Rattle.rp_generated.proofs.RoundLaws.{only_types}
use Rattle.rp_generated.proofs.rounds.first_types.Goals as goal
use Rattle.rp_generated.proofs.rounds.first_types.Goals.{then-is_given_up-via-then-is_given_up, then-is_given_up-via-else-is_given_up+then-not-is_empty}

pub returns-in_default-clause-first : goal.returns-in_default-clause-first
returns-in_default-clause-first c =
    plain_alone c.args.patches.now c.args.most c.first_type.result c.budgets.ensures.valid.some_budgets c.first_type.ensures.looked c.first_type.ensures.most c.first_type.ensures.decided

pub returns-then-is_given_up-clause-first : goal.returns-then-is_given_up-clause-first
returns-then-is_given_up-clause-first c =
    let p = c.args.patches.now in
    let light = c.in-Some.light in
    let most = c.args.most in
    let same : light.most ≡ most = subst (λ (found : Option Lightest). IfSome found (λ found. found.most ≡ most)) c.in-Some.is c.in_ok-light.ensures.most in
    let within : light.steps ≤ most = let few = light.few in omega (arith, few, same) in
    let under = subst (λ (found : Option Lightest). IfSome found (LookedFrom p 0)) c.in-Some.is c.in_ok-light.ensures.looked in
    one_search p most light c.budgets.ensures.valid.some_budgets under within (elim c.then-is_given_up.branch [
      | then-is_given_up-via-then-is_given_up w ↦ (λ none. inl (c.is_given_up.ensures.spent w.if-is_given_up.true ∙ same))
      | then-is_given_up-via-else-is_given_up+then-not-is_empty w ↦
          (let some : 0 < length light.types.items = search rules in λ none. absurd (omega (arith, none, some)))
    ])

pub returns-clause-first : goal.returns-clause-first
returns-clause-first c =
    let p = c.args.patches.now in
    let light = c.in-Some.light in
    let most = c.args.most in
    let same : light.most ≡ most = subst (λ (found : Option Lightest). IfSome found (λ found. found.most ≡ most)) c.in-Some.is c.in_ok-light.ensures.most in
    let within : light.steps ≤ most = let few = light.few in omega (arith, few, same) in
    let under = subst (λ (found : Option Lightest). IfSome found (LookedFrom p 0)) c.in-Some.is c.in_ok-light.ensures.looked in
    plain_after p most light c.first_type-2.result c.budgets.ensures.valid.some_budgets under within c.first_type-2.ensures.looked c.first_type-2.ensures.most c.first_type-2.ensures.decided

pub returns-then-is_given_up-clause-types : goal.returns-then-is_given_up-clause-types
returns-then-is_given_up-clause-types c =
    only_types c.args.patches.now c.args.program.now c.in-Some.light.types.items
    (subst (λ (found : Option Lightest). MatchOption found (SomePriceIsWide c.args.patches.now c.args.program.now) (FindsBy c.args.patches.now c.args.program.now)) c.in-Some.is c.in_ok-light.ensures.finds).light
