use Rattle.rp_evidence.specs.DemandEvidence.{budget_of, bundle_of}
use Rattle.rp_evidence.specs.Input.{input_of_table}
use Rattle.rp_evidence.specs.declared.certificate.Item.TheVariants.{Demand}
use Rattle.rp_evidence.specs.declared.demand.DemandPart.TheVariants.{Bounds}
use Rattle.rp_people.proofs.FullTables.{table_is_full}
use Rattle.rp_people.proofs.SaysOfItems.{says}
use Rattle.rp_support.proofs.DemandLemmas.{are_mixed, inner_supports, proves_lower, proves_upper}
use Rattle.rp_support.proofs.demand_verdict.bounds.Goals as goal

pub goods-requires-2-clause-support : goal.goods-requires-2-clause-support
goods-requires-2-clause-support c =
    let b = c.args.budget.now in
    let point = c.in_ok-inner.inner in
    (bundle_of point, inner_supports b.at.table.now b.at.prices.now b.m c.goods.ensures.valid b.at.new c.requires.sound (bundle_of point) c.in_ok-inner.ensures.inner)

pub returns-clause-proves : goal.returns-clause-proves
returns-clause-proves c =
    let b = c.args.budget.now in
    let point = c.in_ok-inner.inner in
    let below = c.in_ok-below.below.items in
    let support = inner_supports b.at.table.now b.at.prices.now b.m c.goods.ensures.valid b.at.new c.requires.sound (bundle_of point) c.in_ok-inner.ensures.inner in
    let bounds = rw c.deref-2.ensures.value at c.in_ok-goods.ensures in (
      b.at.new.one_each,
      rw (c.from_vec.ensures, c.from_vec-2.ensures, c.from_vec-3.ensures) (record {
        sound = c.requires.sound;
        below_listed = c.in_ok-below.ensures;
        strict_listed = c.in_ok-strict.ensures;
        inner_goods = c.in_ok-inner.ensures.goods;
        inner_supports = support;
        one_each = bounds.one_each;
        each = λ g d g_in. (
          proves_lower b.at.table.now b.at.prices.now b.m c.goods.ensures.valid b.at.new c.requires.sound below c.in_ok-below.ensures (bundle_of point) support g g_in _ (bounds.lower g d g_in),
          proves_upper b.at.table.now b.at.prices.now b.m c.goods.ensures.valid b.at.new c.requires.sound below c.in_ok-below.ensures (bundle_of point) support g g_in _ (bounds.upper g d g_in),
        );
      }),
    )

pub returns-clause-says : goal.returns-clause-says
returns-clause-says c =
    let b = c.args.budget.now in
    says (input_of_table b.at.table.now) (table_is_full b.at.table.now c.goods.ensures.valid) (Demand b.at.prices.now b.m (Bounds c.from_vec.result c.from_vec-2.result c.in_ok-inner.inner c.from_vec-3.result)) (returns-clause-proves c)

pub returns-clause-mixtures : goal.returns-clause-mixtures
returns-clause-mixtures c =
    let b = c.args.budget.now in
    let point = c.in_ok-inner.inner in
    let below = c.in_ok-below.below.items in
    let support = inner_supports b.at.table.now b.at.prices.now b.m c.goods.ensures.valid b.at.new c.requires.sound (bundle_of point) c.in_ok-inner.ensures.inner in
    let bounds = rw c.deref-2.ensures.value at c.in_ok-goods.ensures in
    rw (c.from_vec.ensures, c.from_vec-3.ensures)
    (are_mixed (input_of_table b.at.table.now) (budget_of b.at.prices.now b.m) below c.in_ok-below.ensures c.requires.sound (bundle_of point) support c.in_ok-goods.goods.items bounds)
