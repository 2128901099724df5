use Rattle.std.proofs.Common.{◌≡◌, ◌∙◌, ℕ, List, None, subst}
use Rattle.rp_patch.specs.Apportionment.{PassesTotalAt, SaysWhyNoUnits, grouped}
use Rattle.rp_patch.specs.InnerUnited.{times_of}
use Rattle.rp_patch.specs.declared.fault.ApportionFault.TheVariants.{NeedUnit}
use Rattle.rp_patch.proofs.of_choices.shared_out.Goals as goal

pub returns-in-Err-NeedUnit-clause-refused : goal.returns-in-Err-NeedUnit-clause-refused
returns-in-Err-NeedUnit-clause-refused c =
    let why : SaysWhyNoUnits (grouped c.as_slice.result.now c.as_slice-2.result.now) c.args.unit (NeedUnit c.in-Err-NeedUnit.group) = rw c.in-Err-NeedUnit.field-0-is at c.in-Err-NeedUnit.ensures.refused in
    subst (λ (bs : List ℕ). (c.args.unit ≡ None) × PassesTotalAt (grouped bs (times_of c.args.chosen.now)) c.in-Err-NeedUnit.group) (c.as_slice.ensures.value ∙ c.in_ok-budgets.ensures)
    (subst (λ (ts : List ℕ). (c.args.unit ≡ None) × PassesTotalAt (grouped c.as_slice.result.now ts) c.in-Err-NeedUnit.group) (c.as_slice-2.ensures.value ∙ c.in_ok-times.ensures) why)
