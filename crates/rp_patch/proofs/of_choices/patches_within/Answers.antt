use Rattle.std.proofs.Common.{◌≤◌, List, ◌∙◌, ap, arith, length, refl, slice_index, subst, sym}
use Rattle.rp_num.proofs.PassedOn.{passed_on}
use Rattle.rp_patch.specs.Apportionment.{AreFilled, AreGrouped, GroupedCounts, HasShares}
use Rattle.rp_patch.specs.Choices.{random_input_of}
use Rattle.rp_patch.specs.InnerUnited.{SaysWhyNotShared, budgets_of, counts_of, times_of}
use Rattle.rp_patch.specs.Patches.{PatchList}
use Rattle.rp_patch.specs.Units.{ArePatchesOf, SaysWhyWithin}
use Rattle.rp_patch.specs.declared.chosen.Chosen.{Chosen}
use Rattle.rp_patch.proofs.ChosenGroups.{are_grouped, counts_is, few_on_each, some_on_every}
use Rattle.rp_patch.proofs.PatchesMade.{are_patches, is_patch_list, refused_units, united_by}
use Rattle.rp_patch.proofs.of_choices.patches_within.Goals as goal

pub shared_out-requires-clause-grouped : goal.shared_out-requires-clause-grouped
shared_out-requires-clause-grouped c =
    let input = random_input_of c.args.budgets.now c.args.choices.now in
    let positive = some_on_every c.args.budgets.now c.args.choices.now c.requires.from in
    let some : 1 ≤ length c.args.budgets.now.w = omega (arith, c.requires.from.on_budgets 0 c.count.ensures.valid.some_choices) in
    let is = c.as_slice.ensures.value ∙ c.in_ok-chosen.ensures.exact in
    let few = c.in_ok-chosen.ensures.few in
    subst (λ (xs : List Chosen). AreGrouped (budgets_of xs) (times_of xs)) (sym is)
    (are_grouped input some positive (omega (arith, ap length c.in_ok-chosen.ensures.exact, few, c.requires.most)) (few_on_each c.args.budgets.now c.args.choices.now c.count.ensures.valid))

pub make-requires : goal.make-requires
make-requires c =
    let input = random_input_of c.args.budgets.now c.args.choices.now in
    let positive = some_on_every c.args.budgets.now c.args.choices.now c.requires.from in
    let some = c.count-2.ensures.valid.some_budgets in
    let is = c.as_slice.ensures.value ∙ c.in_ok-chosen.ensures.exact in
    let few = c.in_ok-chosen.ensures.few in
    let shared = c.in_ok-shared.shared in
    let filled = subst (λ (g : GroupedCounts). AreFilled g shared.total (slice_index shared.units)) (ap counts_of is ∙ counts_is input some positive) c.in_ok-shared.ensures.filled in
    let united = united_by input c.as_slice-2.result.now shared.units c.as_slice-3.result.now c.in_ok-united.united.items
    (c.as_slice-2.ensures.value ∙ c.in_ok-chosen.ensures.exact) c.as_slice-3.ensures c.in_ok-united.ensures in
    is_patch_list input shared.total shared.units (c.in_ok-shared.ensures.each ∙ ap length is) _ c.count-2.ensures.count refl united filled
    some c.count-2.ensures.valid.few_budgets (omega (arith, ap length c.in_ok-chosen.ensures.exact, few, c.requires.most)) c.in_ok-shared.ensures.within.0 c.in_ok-shared.ensures.within.1

pub returns-clause-exact : goal.returns-clause-exact
returns-clause-exact c =
    let input = random_input_of c.args.budgets.now c.args.choices.now in
    let positive = some_on_every c.args.budgets.now c.args.choices.now c.requires.from in
    let some = c.count-2.ensures.valid.some_budgets in
    let is = c.as_slice.ensures.value ∙ c.in_ok-chosen.ensures.exact in
    let shared = c.in_ok-shared.shared in
    let shares = subst (λ (g : GroupedCounts). HasShares g c.args.unit shared.total (slice_index shared.units)) (ap counts_of is ∙ counts_is input some positive) c.in_ok-shared.ensures.exact in
    let united = united_by input c.as_slice-2.result.now shared.units c.as_slice-3.result.now c.in_ok-united.united.items
    (c.as_slice-2.ensures.value ∙ c.in_ok-chosen.ensures.exact) c.as_slice-3.ensures c.in_ok-united.ensures in
    subst (λ (p : PatchList). ArePatchesOf input c.args.unit p) (sym c.make.ensures)
    (are_patches input shared.total shared.units (c.in_ok-shared.ensures.each ∙ ap length is) _ c.count-2.ensures.count refl united c.args.unit shares refl)

pub returns-in_err-shared-clause-refused : goal.returns-in_err-shared-clause-refused
returns-in_err-shared-clause-refused c =
    let input = random_input_of c.args.budgets.now c.args.choices.now in
    let positive = some_on_every c.args.budgets.now c.args.choices.now c.requires.from in
    let some : 1 ≤ length c.args.budgets.now.w = omega (arith, c.requires.from.on_budgets 0 c.count.ensures.valid.some_choices) in
    let is = c.as_slice.ensures.value ∙ c.in_ok-chosen.ensures.exact in
    let few = c.in_ok-chosen.ensures.few in
    passed_on c.from_residual-in_err-shared.result c.in_err-shared.field-0.0 (SaysWhyWithin input c.args.unit c.args.most) c.from_residual-in_err-shared.ensures
    (refused_units input c.args.unit c.args.most c.in_err-shared.field-0.0 (omega (arith, ap length c.in_ok-chosen.ensures.exact, few))
    (subst (λ (g : GroupedCounts). SaysWhyNotShared g c.args.unit c.in_err-shared.field-0.0) (ap counts_of is ∙ counts_is input some positive) c.in_err-shared.ensures.refused))
