use Rattle.std.proofs.Common.{◌≡◌, ◌∙◌, ◌++◌, ap, sym, subst, arith, List, ℕ}
use Rattle.rp_table.specs.Tables.{IsTable}
use Rattle.rp_answers.specs.TrialTable.{record_generator, trial_price, trial_quantity}
use Rattle.rp_power.proofs.DrawnLemmas.{row_more}
use Rattle.rp_answers.proofs.TrialLemmas.{first_record, record_more, quantities_after, trial_is_table, trial_is}
use Rattle.rp_answers.proofs.trial.table.trial_table.Goals as goal

pub loop-init : goal.loop-init
loop-init c = record {
  moved = first_record c.args.seed c.args.goods c.generator-generator.result c.generator-generator.ensures;
  priced = c.new-prices.ensures.items;
  bought = c.new-quantities.ensures.items;
}

pub loop-preserved : goal.loop-preserved
loop-preserved c =
    let seed = c.args.seed in
    let goods = c.args.goods in
    let k = c.loop.counter in
    let here = c.loop.generator in
    let mid = c.draw_prices.new.generator in
    let i = c.loop.invariant in
    let price : ℕ → ℕ → ℕ = λ t. trial_price (record_generator seed goods t) in
    let quantity : ℕ → ℕ → ℕ = λ t. trial_quantity goods (record_generator seed goods t) in
    record {
      moved = record_more seed goods k here mid c.draw_quantities.new.generator i.moved c.in_ok-priced.ensures.moved c.in_ok-bought.ensures.moved;
      priced = row_more k goods price c.loop.prices.items c.in_ok-priced.priced.items c.extend_from_slice.new.self.items i.priced (rw i.moved at c.in_ok-priced.ensures.drawn) (c.in_ok-extend_from_slice.ensures.items ∙ ap (λ (l : List ℕ). c.loop.prices.items ++ l) c.as_slice.ensures.value);
      bought =
          let drawn = quantities_after goods here mid c.in_ok-bought.bought.items c.in_ok-priced.ensures.moved c.in_ok-bought.ensures.drawn in
          row_more k goods quantity c.loop.quantities.items c.in_ok-bought.bought.items c.extend_from_slice-in-loop.new.self.items i.bought (rw i.moved at drawn) (c.in_ok-extend_from_slice-2.ensures.items ∙ ap (λ (l : List ℕ). c.loop.quantities.items ++ l) c.as_slice-in-loop.ensures.value);
    }

pub make-requires-clause-table : goal.make-requires-clause-table
make-requires-clause-table c =
    let all : c.loop.counter ≡ c.args.rows = omega arith in
    let is = trial_is c.args.seed c.args.rows c.args.goods c.in_ok-names.names.items c.loop.prices.items c.loop.quantities.items c.in_ok-names.ensures (rw all at c.loop.invariant.priced) (rw all at c.loop.invariant.bought) in
    let q = c.requires in
    subst IsTable (sym is) (trial_is_table c.args.seed c.args.rows c.args.goods q.some_rows q.few_rows q.some_goods q.few_goods)

pub returns : goal.returns
returns c =
    let all : c.loop.counter ≡ c.args.rows = omega arith in
    c.make.ensures ∙ trial_is c.args.seed c.args.rows c.args.goods c.in_ok-names.names.items c.loop.prices.items c.loop.quantities.items c.in_ok-names.ensures (rw all at c.loop.invariant.priced) (rw all at c.loop.invariant.bought)
