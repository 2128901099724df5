use Rattle.std.proofs.Common.{◌≡◌, ◌↔◌, ◌*◌, IsTrue, length, subst, ap, ◌∙◌, arith}
use Rattle.rp_power.specs.Words.{word_after}
use Rattle.rp_power.specs.DrawnTable.{drawn_table}
use Rattle.rp_power.specs.PowerCount.{FailsAxiom, behaviour, behaviour_words, words_of}
use Rattle.rp_power.proofs.CountMore.{none_of_none, number_told, one_at_most}
use Rattle.rp_power.proofs.DrawnLemmas.{count_of}
use Rattle.rp_power.proofs.SpentLemmas.{both, quantities_count, quantities_within, some_drawn}
use Rattle.rp_power.proofs.WordBlocks.{block_words, first_block, next_block}
use Rattle.rp_power.proofs.count.power.Goals as goal

pub loop-init : goal.loop-init
loop-init c = record {
  moved = first_block c.args.seed (words_of c.args.table.now) c.generator-generator.result c.generator-generator.ensures;
  counted = none_of_none (λ i. FailsAxiom (behaviour c.args.table.now c.args.seed i));
  few = omega arith;
}

pub draw_quantities-requires-clause-words : goal.draw_quantities-requires-clause-words
draw_quantities-requires-clause-words c =
    let size : c.n.result * c.goods.result ≡ words_of c.args.table.now = λ i. c.n.ensures.count i * c.goods.ensures.count i in
    ap length c.as_slice-drawn.ensures.value ∙ count_of (word_after c.loop.generator) (c.n.result * c.goods.result) c.draw_words.new.words.items c.in_ok-draw_words.ensures.drawn ∙ size

pub quantities_fail-requires-clause-all : goal.quantities_fail-requires-clause-all
quantities_fail-requires-clause-all c =
    quantities_count c.args.table.now c.as_slice-drawn.result.now c.as_slice.result.now (c.as_slice.ensures.value ∙ c.in_ok-draw_quantities.ensures)

pub quantities_fail-requires-clause-limits : goal.quantities_fail-requires-clause-limits
quantities_fail-requires-clause-limits c =
    quantities_within c.args.table.now c.as_slice-drawn.result.now c.as_slice.result.now (c.as_slice.ensures.value ∙ c.in_ok-draw_quantities.ensures) c.n.ensures.valid

pub loop-preserved : goal.loop-preserved
loop-preserved c =
    let table = c.args.table.now in
    let seed = c.args.seed in
    let k = c.loop.counter in
    let i = c.loop.invariant in
    let size : c.n.result * c.goods.result ≡ words_of table = λ i. c.n.ensures.count i * c.goods.ensures.count i in
    let words = block_words seed (words_of table) k c.loop.generator c.draw_words.new.words.items i.moved (rw size at c.in_ok-draw_words.ensures.drawn) in
    let drawn : c.as_slice-drawn.result.now ≡ behaviour_words table seed k = c.as_slice-drawn.ensures.value ∙ words in
    let some = some_drawn table c.as_slice-drawn.result.now c.as_slice.result.now (c.as_slice.ensures.value ∙ c.in_ok-draw_quantities.ensures) in
    let told = subst (λ w. IsTrue c.in_ok-failed.failed ↔ FailsAxiom (drawn_table table w)) drawn (both c.in_ok-failed.ensures some) in
    record {
      moved = next_block seed (words_of table) k c.loop.generator c.draw_words.new.generator i.moved (rw size at c.in_ok-draw_words.ensures.moved);
      counted = number_told (λ b. FailsAxiom (behaviour table seed b)) k c.loop.violations c.from-violations.result c.in_ok-failed.failed told c.from-violations.ensures i.counted;
      few = omega (arith, i.few, one_at_most c.in_ok-failed.failed c.from-violations.result c.from-violations.ensures);
    }

pub returns : goal.returns
returns c =
    let all : c.loop.counter ≡ c.args.draws = omega arith in
    rw all at c.loop.invariant.counted
