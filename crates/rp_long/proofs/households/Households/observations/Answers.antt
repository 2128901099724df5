use Rattle.std.proofs.Common.{length, sym, ap, ◌∙◌, arith}
use Rattle.rp_long.specs.Panels.{Household}
use Rattle.rp_long.proofs.PanelLemmas.{member_count, household_there}
use Rattle.rp_long.proofs.households.Households.observations.Goals as goal

pub members-requires : goal.members-requires
members-requires c =
    let same = member_count c.self.inside.columns c.self.inside.records.now c.self.inside.groups c.args.self.now c.self.invariant.1 c.self.view_is in
    omega (arith, same, c.requires)

pub returns : goal.returns
returns c =
    let there = household_there c.self.inside.columns c.self.inside.records.now c.self.inside.groups c.args.self.now c.self.invariant.1 c.self.view_is c.args.h c.requires in
    ap length c.members.ensures ∙ sym (ap (λ (household : Household). length household.records) there)
