use Rattle.rp_afriat.specs.AfriatVerdict.{IsOwnAfriatVerdict}
use Rattle.rp_evidence.specs.Input.{input_of_table}
use Rattle.rp_evidence.specs.Proves.{Proves}
use Rattle.rp_evidence.specs.declared.certificate.Item.TheVariants.{Garp as GarpItem, Afriat as AfriatItem}
use Rattle.rp_answers.proofs.AcceptedLemmas.{first_accepted}
use Rattle.rp_answers.proofs.GarpFirstLemmas.{afriat_given_there, afriat_there, garp_given_there, garp_there}
use Rattle.std.proofs.Common.{◌++◌, ◌∙◌, ap, [], ◌∷◌}
use Rattle.rp_answers.proofs.SaysLemmas.{none_says, says_too}
use Rattle.rp_answers.proofs.utility.utility_text.Goals as goal

pub returns : goal.returns
returns c =
    let is_test = c.in_ok-tested.ensures.is_test in
    let is = is_test.of_table in
    let costs = c.in_ok-tested.tested.costs in
    let table = c.args.table.now in
    let input = input_of_table table in
    let garp = c.in_ok-tested.tested.garp in
    let afriat = c.in_ok-afriat.afriat in
    let garp_proves : Proves input (GarpItem garp) = garp_there costs table is garp is_test.is_test.proves in
    let afriat_proves : Proves input (AfriatItem afriat) = afriat_there costs table is afriat c.in_ok-afriat.ensures.proves in
    let afriat_given : IsOwnAfriatVerdict input.n input.levels input.cost afriat = afriat_given_there costs table is afriat c.in_ok-afriat.ensures.given in
    record {
      garp = garp;
      afriat = afriat;
      lines = c.in_ok-lines.lines.items;
      garp_proves = garp_proves;
      garp_given = garp_given_there costs table is garp c.in_ok-tested.ensures.given;
      afriat_proves = afriat_proves;
      afriat_given = afriat_given;
      accepted = first_accepted input garp garp_proves afriat afriat_proves afriat_given;
      says =
          says_too table is_test.valid (GarpItem garp) (AfriatItem afriat ∷ []) garp_proves
          (says_too table is_test.valid (AfriatItem afriat) [] afriat_proves (none_says table is_test.valid));
      all_lines = c.in_ok-lines.ensures;
      text_is =
          c.in_ok-extend_from_slice.ensures.items
          ∙ ap (λ l. c.in_ok-text.text.items ++ l) c.as_slice.ensures.value
          ∙ ap (λ t. t ++ c.in_ok-lines.lines.items) c.in_ok-text.ensures;
    }
