use Rattle.std.proofs.Common.{◌≡◌, ◌-◌, ap, arith, length, ◌∙◌}
use Rattle.rp_orders.specs.InnerLists.{digits, first_missing}
use Rattle.rp_orders.proofs.LoopLemmas.{first_take, list_written}
use Rattle.rp_orders.proofs.lists.write_list.Goals as goal

pub returns : goal.returns
returns c =
    let old = c.args.list.now in
    let last = length old - 1 in
    let size = first_take old last (omega (arith, c.requires.some, c.requires.places)) in
    let written : c.write_digits.new.places ≡ digits c.args.letters last c.args.n = c.write_digits.ensures ∙ ap (λ k. digits c.args.letters k c.args.n) size.0 in
    list_written c.args.letters c.args.n last old c.write_digits.new.places c.missing.result c.requires.some c.requires.places (ap (λ k. k - 1) c.requires.places) written
    (c.missing.ensures ∙ ap (first_missing c.args.letters) (size.1 c.write_digits.new.places (ap length c.write_digits.ensures ∙ size.2 c.args.letters c.args.n)))
