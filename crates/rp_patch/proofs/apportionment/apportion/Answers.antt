use Rattle.std.proofs.Common.{◌∙◌, ap, arith, length, subst, sym, slice_index, List, ℕ}
use Rattle.rp_patch.specs.Apportionment.{AreFilled, HasShares, grouped, groups_in}
use Rattle.rp_patch.specs.InnerPortions.{AreRoundedUpBelow, ArePortionUnits}
use Rattle.rp_patch.specs.declared.portion.Portion.{Portion}
use Rattle.rp_patch.proofs.GroupFacts.{group_within}
use Rattle.rp_patch.proofs.SharesMade.{are_whole, given_on, has_shares, whole_small}
use Rattle.rp_patch.proofs.apportionment.apportion.Goals as goal

pub round_all_up-requires : goal.round_all_up-requires
round_all_up-requires c =
    let are = c.requires.grouped in
    rw c.count_groups.ensures (are_whole (grouped c.args.groups.now c.args.counts.now) (group_within c.args.groups.now c.args.counts.now are) are.positive
    c.in_ok-total.total c.in_ok-portions.portions.items c.in_ok-portions.ensures are.few c.in_ok-total.ensures.within.1)

pub all_units-requires : goal.all_units-requires
all_units-requires c = λ i within.
    let are = c.requires.grouped in
    let all : AreRoundedUpBelow c.in_ok-portions.portions.items c.round_all_up.new.portions.items (groups_in c.args.groups.now) c.in_ok-total.total =
    subst (λ k. AreRoundedUpBelow c.in_ok-portions.portions.items c.round_all_up.new.portions.items k c.in_ok-total.total) c.count_groups.ensures c.round_all_up.ensures in
    let here = whole_small (grouped c.args.groups.now c.args.counts.now) (group_within c.args.groups.now c.args.counts.now are) are.positive
    c.in_ok-total.total c.in_ok-portions.portions.items c.in_ok-portions.ensures i (omega (arith, ap length c.as_slice.ensures.value, all.same.count, within)) in
    let same = all.same.whole i in
    let small = c.in_ok-total.ensures.within.1 in
    rw c.as_slice.ensures.value (omega (arith, here, same, small))

pub returns-clause-exact : goal.returns-clause-exact
returns-clause-exact c =
    let g = grouped c.args.groups.now c.args.counts.now in
    let are = c.requires.grouped in
    let rounded_up = c.round_all_up.new.portions.items in
    let all : AreRoundedUpBelow c.in_ok-portions.portions.items rounded_up (groups_in c.args.groups.now) c.in_ok-total.total =
    subst (λ k. AreRoundedUpBelow c.in_ok-portions.portions.items rounded_up k c.in_ok-total.total) c.count_groups.ensures c.round_all_up.ensures in
    let made : ArePortionUnits rounded_up (length rounded_up) c.in_ok-units.units.items =
    subst (λ (ps : List Portion). ArePortionUnits ps (length ps) c.in_ok-units.units.items) c.as_slice.ensures.value c.in_ok-units.ensures in
    let each : ArePortionUnits rounded_up (length c.args.groups.now) c.in_ok-units.units.items =
    subst (λ n. ArePortionUnits rounded_up n c.in_ok-units.units.items) (all.same.count ∙ c.in_ok-portions.ensures.0) made in
    subst (λ (us : List ℕ). HasShares g c.args.unit c.in_ok-total.total (slice_index us)) (sym c.from_vec.ensures)
    (has_shares g (group_within c.args.groups.now c.args.counts.now are) are.positive c.in_ok-total.total c.in_ok-portions.portions.items c.in_ok-portions.ensures
    rounded_up all c.in_ok-units.units.items each c.args.unit c.in_ok-total.ensures.exact)

pub returns-clause-filled : goal.returns-clause-filled
returns-clause-filled c =
    let g = grouped c.args.groups.now c.args.counts.now in
    let are = c.requires.grouped in
    let rounded_up = c.round_all_up.new.portions.items in
    let all : AreRoundedUpBelow c.in_ok-portions.portions.items rounded_up (groups_in c.args.groups.now) c.in_ok-total.total =
    subst (λ k. AreRoundedUpBelow c.in_ok-portions.portions.items rounded_up k c.in_ok-total.total) c.count_groups.ensures c.round_all_up.ensures in
    let made : ArePortionUnits rounded_up (length rounded_up) c.in_ok-units.units.items =
    subst (λ (ps : List Portion). ArePortionUnits ps (length ps) c.in_ok-units.units.items) c.as_slice.ensures.value c.in_ok-units.ensures in
    let each : ArePortionUnits rounded_up (length c.args.groups.now) c.in_ok-units.units.items =
    subst (λ n. ArePortionUnits rounded_up n c.in_ok-units.units.items) (all.same.count ∙ c.in_ok-portions.ensures.0) made in
    subst (λ (us : List ℕ). AreFilled g c.in_ok-total.total (slice_index us)) (sym c.from_vec.ensures)
    (given_on g (group_within c.args.groups.now c.args.counts.now are) are.positive c.in_ok-total.total c.in_ok-portions.portions.items c.in_ok-portions.ensures
    rounded_up all c.in_ok-units.units.items each)
