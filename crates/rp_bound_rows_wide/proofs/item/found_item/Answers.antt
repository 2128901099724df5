use Rattle.std.proofs.Common.{◌∙◌, sym}
use Rattle.rp_evidence.specs.Input.{input_of_table}
use Rattle.rp_bound_rows_wide.proofs.ItemLemmas.{found_beside}
use Rattle.rp_bound_rows_wide.proofs.item.found_item.Goals as goal

pub returns : goal.returns
returns c =
    found_beside (input_of_table c.args.table.now) c.args.tested.now.garp c.args.stated c.in-Some.found c.in_ok-certificate.certificate c.in_ok-filled.filled c.pop.new.self.items c.in_ok-certificate.ensures.made c.in_ok-filled.ensures
    (sym c.into_vec-items.ensures ∙ c.in-Some.ensures.items)
