use Rattle.std.proofs.Common.{◌+◌, ap, sym, ◌∙◌, refl, arith, get_or, count_ones}
use Rattle.rp_pref.proofs.BitCounts.{word_more, ones_below}
use Rattle.rp_pref.proofs.bits.count_set.Goals as goal

pub loop-word-preserved : goal.loop-word-preserved
loop-word-preserved c =
    let words = c.args.words.now in let i = c.loop-word.word-index in let word = get_or words i 0 in let fits = (c.type_inv.words i).fits in
    (ap (λ n. n + count_ones word) c.loop-word.invariant.0 ∙ sym (word_more words i word 64 refl refl fits), omega (arith, c.loop-word.invariant.1, ones_below 64 word fits))
