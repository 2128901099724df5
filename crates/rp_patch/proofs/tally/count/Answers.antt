use Rattle.std.proofs.Common.{arith, ◌∙◌, ap, ◌≡◌, ◌≤◌, ◌*◌, refl, unwrap_or}
use Rattle.indexmap.specs.IndexMap.{insert_entry}
use Rattle.rp_patch.specs.InnerTallies.{tallied}
use Rattle.rp_patch.proofs.TallyMaps.{before, found_at_most, one_more, same}
use Rattle.rp_patch.proofs.tally.count.Goals as goal

pub overflow_add-before : goal.overflow_add-before
overflow_add-before c =
    let is : c.unwrap_or-before.result ≡ before c.args.signs c.args.tally.now.entries = c.unwrap_or-before.ensures ∙ ap (λ o. unwrap_or o 0) (c.copied.ensures ∙ c.get.ensures.value) in
    let most : before c.args.signs c.args.tally.now.entries ≤ 4096 * 9999999 = found_at_most (4096 * 9999999) c.args.tally.now.entries c.args.signs c.requires in
    let times = c.ranges.times.fits in
    omega (arith, is, most, c.from.ensures, times)

pub returns : goal.returns
returns c =
    let is : c.unwrap_or-before.result ≡ before c.args.signs c.args.tally.now.entries = c.unwrap_or-before.ensures ∙ ap (λ o. unwrap_or o 0) (c.copied.ensures ∙ c.get.ensures.value) in
    ap tallied c.in_ok-insert.ensures.entries
    ∙ ap (λ n. tallied (insert_entry same c.args.tally.now.entries c.args.signs n)) (rw (is, c.from.ensures) refl)
    ∙ one_more c.args.tally.now.entries c.args.signs c.args.times
