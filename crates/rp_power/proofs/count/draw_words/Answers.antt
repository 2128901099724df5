use Rattle.rp_power.proofs.WordLemmas.{none_yet, one_word_more}
use Rattle.rp_power.proofs.WordBlocks.{words_more}
use Rattle.rp_power.proofs.count.draw_words.Goals as goal

pub loop-init : goal.loop-init
loop-init c = record { drawn = c.clear.ensures.items; moved = none_yet c.args.generator.now }

pub loop-preserved : goal.loop-preserved
loop-preserved c =
    let g = c.args.generator.now in
    let i = c.loop.invariant in
    record {
      drawn = words_more g c.loop.generator c.loop.counter c.draw.result c.loop.words.items c.push.new.self.items i.drawn i.moved c.draw.ensures.word c.in_ok-push.ensures.items;
      moved = one_word_more g c.loop.generator c.draw.new.generator c.loop.counter i.moved c.draw.ensures.moved;
    }
