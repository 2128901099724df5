use Rattle.std.proofs.Common.{◌+◌, ◌%◌, refl}
use Rattle.rp_answers.proofs.TrialLemmas.{prices_more}
use Rattle.rp_power.proofs.WordLemmas.{one_word_more, none_yet}
use Rattle.rp_answers.proofs.trial.table.draw_prices.Goals as goal

pub loop-init : goal.loop-init
loop-init c = record { drawn = c.new-row.ensures.items; moved = none_yet c.args.generator.now }

pub loop-preserved : goal.loop-preserved
loop-preserved c =
    let here = c.loop.generator in
    record {
      drawn = prices_more c.args.generator.now here c.loop.counter c.draw.result (1 + c.draw.result % 99) c.loop.row.items c.push.new.self.items c.loop.invariant.drawn c.loop.invariant.moved c.draw.ensures.word refl c.in_ok-push.ensures.items;
      moved = one_word_more c.args.generator.now here c.draw.new.generator c.loop.counter c.loop.invariant.moved c.draw.ensures.moved;
    }
