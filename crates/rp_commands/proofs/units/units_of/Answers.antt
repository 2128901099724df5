use Rattle.std.proofs.Common.{ℕ, List, subst}
use Rattle.rp_patch.specs.Apportionment.{SaysWhyNoUnits, grouped}
use Rattle.rp_patch.specs.declared.fault.ApportionFault.TheVariants.{NeedUnit}
use Rattle.rp_commands.proofs.MenuFiles.{unit_needed_cause}
use Rattle.rp_commands.proofs.units.units_of.Goals as goal

pub returns-in-Err-NeedUnit-clause-caused : goal.returns-in-Err-NeedUnit-clause-caused
returns-in-Err-NeedUnit-clause-caused c =
    let seen = c.args.seen.now in
    let per = c.args.per in
    let menu = c.in-Err-NeedUnit.group in
    let why : SaysWhyNoUnits (grouped c.groups.result.now c.counts.result.now) per (NeedUnit menu) = rw c.in-Err-NeedUnit.field-0-is at c.in-Err-NeedUnit.ensures.refused in
    let says = subst (λ (groups : List ℕ). SaysWhyNoUnits (grouped groups seen.counts) per (NeedUnit menu)) c.groups.ensures.exact
    (subst (λ (counts : List ℕ). SaysWhyNoUnits (grouped c.groups.result.now counts) per (NeedUnit menu)) c.counts.ensures why) in
    unit_needed_cause seen per menu c.unit_needed.result says c.unit_needed.ensures
