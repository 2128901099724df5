use Rattle.std.proofs.Common.{◌++◌, ap, ◌∙◌}
use Rattle.std.specs.List.{flat_map}
use Rattle.rp_print.specs.MixtureText.{apportioned_text}
use Rattle.rp_report.specs.RandomText.{counts_text, random_item_text}
use Rattle.rp_print.proofs.Texts.{three_from_nothing}
use Rattle.rp_report.proofs.patches.report_random.Goals as goal

pub returns : goal.returns
returns c =
    let patches = c.args.patches.now in
    let per = c.push_apportioned.new.out.items in
    three_from_nothing (counts_text patches c.args.types) (apportioned_text patches.asked) (flat_map (random_item_text patches) c.args.certificate.now.items)
    c.new-text.result.items c.push_counts.new.out.items per c.push_items.new.out.items
    c.new-text.ensures.items c.in_ok-push_counts.ensures (c.in_ok-push_apportioned.ensures ∙ ap (λ unit. c.push_counts.new.out.items ++ apportioned_text unit) c.asked.ensures)
    (c.in_ok-push_items.ensures ∙ ap (λ xs. per ++ flat_map (random_item_text patches) xs) c.as_slice.ensures)
