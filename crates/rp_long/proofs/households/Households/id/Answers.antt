use Rattle.std.proofs.Common.{sym, ap, ◌∙◌, arith}
use Rattle.rp_long.specs.Panels.{Household}
use Rattle.rp_long.proofs.PanelLemmas.{count, household_there}
use Rattle.rp_long.proofs.households.Households.id.Goals as goal

pub id-requires : goal.id-requires
id-requires c =
    let same = count c.self.inside.columns c.self.inside.records.now c.self.inside.groups c.args.self.now c.self.invariant.1 c.self.view_is in
    omega (arith, same, c.requires)

pub returns : goal.returns
returns c =
    let there = household_there c.self.inside.columns c.self.inside.records.now c.self.inside.groups c.args.self.now c.self.invariant.1 c.self.view_is c.args.h c.requires in
    c.id.ensures ∙ sym (ap (λ (household : Household). household.id) there)
